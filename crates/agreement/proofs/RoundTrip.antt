-- The round trip, once for all encoders: what an encoder left in the output spells the text and is not refused as codes to decode. Assumes nothing.
use mathlib.Core.Path.{◌≡◌, sym, ap, ◌∙◌}
use mathlib.Core.Option.{none}
use mathlib.Core.List.{List, ◌++◌}
use Prim.Native.Nat.{ℕ, ◌≤◌, ◌<◌}
use native.Mathlib.Omega.{arith}
use lib.ListN.{length, get_or, take, drop}
use lib.Seq.{take_at, length-take-le, get_or-take}
use Rattle.causes.specs.Call.{to_number}
use Rattle.causes.proofs.Calls.{value-given, given-answer}
use Rattle.phrase_file.specs.Form.{rows}
use Rattle.phrase_file.proofs.Checks.{accepted}
use Rattle.theory.specs.Dictionary.{Dictionary, Octets, spell}
use Rattle.theory.specs.Merge.{encode}
use Rattle.theory.specs.Shortest.{shortest, greedy}
use Rattle.theory.specs.Parts.{Accepted, dictionary}
use Rattle.theory.proofs.Demands.{demand_2_decoding}
use Rattle.tables.specs.Tables.{Tables}
use Rattle.std.specs.Prelude.{Result, Ok}
use Rattle.causes.specs.declared.Cause.{Cause}
use Rattle.built_tables.specs.Built.{dictionary_of, Built}
use Rattle.built_tables.proofs.InForm.{is_in_form}
use Rattle.byte_pair_encoding.specs.Sending.{Sends}
use Rattle.byte_pair_encoding.proofs.Refusals.{no-refusal}
use Rattle.decoder.specs.Decoding.{decode_refusal}
use Rattle.decoder.proofs.Decoding.{decode_of}
use Rattle.agreement.specs.RoundTrip.{DecodesBack, RoundTrip}

-- codes that spell the text, over accepted rows and a text of octets
abbrev Spells : (Dictionary → List ℕ → List ℕ) → Type 0
Spells M = (rs : List (List ℕ)) → Accepted rs → (t : List ℕ) → Octets t → spell (dictionary rs) (M (dictionary rs) t) ≡ t

-- codes that may be decoded: they spell the text, and are at most 4,096, each below n
record Decodable (file text : List ℕ) (n : ℕ) (codes : List ℕ) : Type 0 where
  spells : spell (dictionary_of file) codes ≡ text
  few : length codes ≤ 4096
  known : (i : ℕ) → i < length codes → get_or codes i 0 < n

module _ (T : Tables) (n : ℕ) (B : Built T n) where
  open T use {file}

  module _ (M : Dictionary → List ℕ → List ℕ) (m : Spells M) where
    -- whatever an encoder left: the first codes of the output, as many as it answered
    written : (text out work out' work' : List ℕ) (sent : Result ℕ Cause) → Sends M T text out work out' work' sent → Octets text
        → (count : ℕ) → sent ≡ Ok count → Decodable file text n (take count out')
    unfolding dictionary_of
    written text out work out' work' sent s o count e =
        let a = value-given s count e in
        let w = (s.given a.0).written in
        let b = (s.given a.0).built n B in
        let p = no-refusal T text out work a.0 in
        let room : count ≤ length out' = omega (arith, a.1, w.few, w.out_length, p.out_room) in
        let size : length (take count out') ≡ count = length-take-le count out' room in
        record {
          spells = ap (λ (l : List ℕ). spell (dictionary_of file) (take count l)) b.codes_are
              ∙ ap (spell (dictionary_of file)) (take_at (M (dictionary_of file) text) (drop s.value out) count (sym b.count_is ∙ a.1))
              ∙ m (rows file) B.accepted text o;
          few = omega (arith, a.1, w.few, p.short, size);
          known = λ i h.
              let l : i < count = omega (arith, size) in
              rw (get_or-take count out' i 0 l) (omega (arith, w.codes i (omega (arith, a.1)), (accepted file n B.passed).count));
        }

    decodes_back : DecodesBack M T
    decodes_back text out work out' work' sent s o count e room room' decoded d fits =
        let w = written text out work out' work' sent s o count e in
        let free : decode_refusal T (take count out') room ≡ none =
        decode_of T (take count out') room n (is_in_form T n B) w.known w.few (omega (arith, ap length w.spells, fits)) in
        let v = d.given free in
        let size : d.value ≡ length text = v.size_is ∙ ap length w.spells in
        record {
          answer = given-answer to_number d free ∙ ap Ok size;
          output = v.output ∙ (λ j. w.spells j ++ drop (size j) room);
        }

  pub round_trip : RoundTrip T
  round_trip = record {
    merge = decodes_back encode (λ rs A t o. (demand_2_decoding rs A t o).merge);
    fewest = decodes_back shortest (λ rs A t o. (demand_2_decoding rs A t o).shortest);
    longest = decodes_back greedy (λ rs A t o. (demand_2_decoding rs A t o).greedy);
  }
