-- The rows that are tried one after the other: a row, its prefix, the prefix of that and so on. Assumes nothing.
use mathlib.Core.Path.{◌≡◌, refl, sym, ap, ◌∙◌}
use mathlib.Core.Logic.{◌⊎◌, inl, inr, ⊎_elim}
use mathlib.Core.List.{List, [], ◌∷◌}
use mathlib.Core.Bool.{Bool, true, false}
use Prim.Native.Nat.{ℕ, ◌≤◌, ◌<◌}
use native.Mathlib.Omega.{arith}
use lib.ListN.{length, get_or, get_or-eq_default}
use Rattle.theory.specs.Parts as Parts
use Rattle.theory.specs.Backtracking.{State, first_fit}
use Rattle.theory.proofs.Candidates.{fits-first, fits-later}
use Rattle.phrase_file.specs.Form.{rows}
use Rattle.theory.specs.Dictionary.{none}
use Rattle.built_tables.specs.Built.{Built, dictionary_of}
use Rattle.built_tables.proofs.Lookups.{prefix_cases}
use Rattle.backtrack_encoder.specs.declared.BacktrackEncoder.{BacktrackEncoder}
use Rattle.backtrack_encoder.specs.Encoder.{TextReady, to_try, EncoderReady, Shows}
use Rattle.backtrack_encoder.specs.Steps.{EndsIn, FitsIs, FirstFitIs}
use Rattle.backtrack_encoder.proofs.Stack.{try_none, try_row, row-none, row-some}
use Rattle.backtrack_encoder.proofs.Sizes.{not_none}
use Rattle.tables.specs.Tables.{Tables, without_prefixes}

-- what is known of the row at a turn: a row or none, and under Built the first that fits is still to come
pub record Trying (T : Tables) (n : ℕ) (text : List ℕ) (e : BacktrackEncoder) (work alive : List ℕ) (token : ℕ) : Type 0 where
  pub row : (token ≡ none) ⊎ (token < n)
  pub ends : Built T n → EndsIn T.file text e e.next → token < n → EndsIn T.file text e token
  pub same : Built T n → EndsIn T.file text e e.next → (s : State) → Shows (dictionary_of T.file) text e work alive s
      → first_fit (dictionary_of T.file) s.stack s.dead (to_try (dictionary_of T.file) token) ≡ first_fit (dictionary_of T.file) s.stack s.dead s.next

module _ (T : Tables) (n : ℕ) (text : List ℕ) (e : BacktrackEncoder) (work alive : List ℕ)
    (K : TextReady T n text work) where
  open T use {file, places, prefixes}

  pub try_start : EncoderReady file n text e work → Trying T n text e work alive e.next
  try_start R = record {
    row = R.next;
    ends = λ B i h. i;
    same = λ B i s v. ap (first_fit (dictionary_of file) s.stack s.dead) (sym v.next);
  }

  module _ (token : ℕ) (Y : Trying T n text e work alive token) where
    -- nothing is left to try
    pub try_end : token ≡ none → FirstFitIs T n text e work alive none
    try_end z = record {
      row = inl refl;
      built = λ B s v i. row-none
          ∙ ap (first_fit (dictionary_of file) s.stack s.dead) (sym (ap (to_try (dictionary_of file)) z ∙ try_none (dictionary_of file)))
          ∙ Y.same B i s v;
    }

    module _ (some : token ≡ none → ⊥) where
      pub try_below : token < n
      try_below = ⊎_elim (λ z. absurd (some z)) (λ h. h) Y.row

      list : to_try (dictionary_of file) token ≡ token ∷ Parts.prefixes (dictionary_of file) token
      list = try_row (dictionary_of file) token some

      -- the row fits
      pub try_fits : (r : Bool) → r ≡ true → FitsIs (without_prefixes T) n text e work alive token r → FirstFitIs T n text e work alive token
      try_fits r y F = record {
        row = inr (try_below, F.ends y);
        built = λ B s v i. row-some token some
            ∙ sym (fits-first (dictionary_of file) s.stack s.dead token (Parts.prefixes (dictionary_of file) token) (sym (F.built prefixes B s v (Y.ends B i try_below)) ∙ y))
            ∙ ap (first_fit (dictionary_of file) s.stack s.dead) (sym list)
            ∙ Y.same B i s v;
      }

      -- the next prefix is shorter, so there is an end to it
      pub try_shorter : length (get_or (rows file) (get_or prefixes token 0) []) < length (get_or (rows file) token [])
      try_shorter =
          let P = K.tables.places_ready in
          let f = P.filled token try_below in
          let few = P.placed.few in
          let count = P.count in
          ⊎_elim
          (λ z. let out : length (rows file) ≤ get_or prefixes token 0 = omega arith in omega (arith, ap length (get_or-eq_default (rows file) [] out)))
          (λ p. p.1)
          (K.tables.prefixes_ready.shorter token try_below)

      module _ (i : EndsIn file text e e.next) (B : Built T n) where
        tail : to_try (dictionary_of file) (get_or prefixes token 0) ≡ Parts.prefixes (dictionary_of file) token
        tail = ⊎_elim
            (λ z. ap (to_try (dictionary_of file)) z.0 ∙ try_none (dictionary_of file) ∙ sym z.1)
            (λ q. try_row (dictionary_of file) (get_or prefixes token 0) (not_none file places n K.tables.places_ready (get_or prefixes token 0) q.row) ∙ sym q.tried)
            (prefix_cases T n B token try_below)

        shorter-ends : get_or prefixes token 0 < n → EndsIn file text e (get_or prefixes token 0)
        shorter-ends h = ⊎_elim
            (λ z. absurd (not_none file places n K.tables.places_ready (get_or prefixes token 0) h z.0))
            (λ q. let s = q.shorter in let a = Y.ends B i try_below in omega arith)
            (prefix_cases T n B token try_below)

      -- it does not fit
      pub try_next : (r : Bool) → r ≡ false → FitsIs (without_prefixes T) n text e work alive token r → Trying T n text e work alive (get_or prefixes token 0)
      try_next r y F = record {
        row = ⊎_elim inl (λ p. inr p.0) (K.tables.prefixes_ready.shorter token try_below);
        ends = λ B i. shorter-ends i B;
        same = λ B i s v.
            ap (first_fit (dictionary_of file) s.stack s.dead) (tail i B)
            ∙ sym (fits-later (dictionary_of file) s.stack s.dead token (Parts.prefixes (dictionary_of file) token) (sym (F.built prefixes B s v (Y.ends B i try_below)) ∙ y))
            ∙ ap (first_fit (dictionary_of file) s.stack s.dead) (sym list)
            ∙ Y.same B i s v;
      }
