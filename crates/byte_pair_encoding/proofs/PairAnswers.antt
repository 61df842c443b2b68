-- The cases of the public pair check. Assumes nothing.
use mathlib.Core.Path.{◌≡◌, sym, ap, subst, ◌∙◌}
use mathlib.Core.List.{[], ◌∷◌}
use mathlib.Core.Bool.{Bool, false}
use Prim.Native.Nat.{ℕ, ◌≤◌, ◌<◌}
use native.Mathlib.Omega.{arith}
use lib.ListN.{length}
use Rattle.std.specs.Prelude.{None, Ok, Err}
use Rattle.causes.specs.declared.Cause.TheVariants.{OutOfForm, UnknownCode}
use Rattle.causes.specs.Call.{to_passes}
use Rattle.causes.proofs.Calls.{call-refused, call-given}
use Rattle.causes.proofs.Unknown.{unknown-first, unknown-behind, unknown-none}
use Rattle.phrase_file.specs.Form.{rows}
use Rattle.phrase_file.proofs.Checks.{accepted}
use Rattle.theory.specs.PairCheck.{passes}
use Rattle.tables.specs.declared.row_tables.RowTables.{RowTables}
use Rattle.tables.specs.Formed.{Formed}
use Rattle.tables.specs.Tables.{Tables, given, pair_given, without_prefixes}
use Rattle.tables.specs.InForm.{form_of}
use Rattle.tables.specs.Ready.{Ready}
use Rattle.tables.proofs.Readiness.{ready}
use Rattle.pair_check.specs.Pair.{PairReady}
use Rattle.pair_check.specs.Pair as Pair
use Rattle.built_tables.specs.Built.{dictionary_of}
use Rattle.built_tables.proofs.Rows.{count_is, pair_is}
use Rattle.byte_pair_encoding.specs.Pair.{pair_refusal, PairChecked}

module _ (T : Tables) (token1 token2 : ℕ) where
  open T use {file}

  pub pair_out : form_of T ≡ None → PairChecked T token1 token2 (Err OutOfForm)
  unfolding pair_refusal
  pair_out e = call-refused to_passes (rw e) false (record {})

  module _ (r : RowTables) (f : Formed T r) where
    abbrev n : ℕ
    n = r.rows.n

    counted : n ≡ length (rows file)
    counted = (ready T n f.formed).places_ready.count

    pub pair-first : n ≤ token1 → PairChecked T token1 token2 (Err (UnknownCode 0))
    unfolding pair_refusal
    pair-first h = call-refused to_passes (rw (f.formed, ← counted, unknown-first n token1 (token2 ∷ []) h)) false (record {})

    pub pair-second : token1 < n → n ≤ token2 → PairChecked T token1 token2 (Err (UnknownCode 1))
    unfolding pair_refusal
    pair-second h k =
        call-refused to_passes
        (rw (f.formed, ← counted, unknown-behind n token1 (token2 ∷ []) h, unknown-first n token2 [] k)) false (record {})

    pub pair-ready : token1 < n → token2 < n → PairReady (pair_given r) n n token1 token2
    pair-ready h k =
        let R : Ready (given r) n = subst (λ (t : Tables). Ready t n) (sym f.same) (ready T n f.formed) in
        record {
          places_ready = R.places_ready;
          parts_ready = R.parts_ready;
          area_room = R.area_room;
          few = omega arith;
          left_below = h;
          right_below = k;
        }

    pub pair_made : (b : Bool) → token1 < n → token2 < n → Pair.PairIs (pair_given r) n n token1 token2 b
        → PairChecked T token1 token2 (Ok b)
    unfolding pair_refusal
    pair_made b h k p =
        call-given to_passes
        (rw (f.formed, ← counted, unknown-behind n token1 (token2 ∷ []) h, unknown-behind n token2 [] k, unknown-none n)) b
        (λ m B.
        let q : n ≡ m = counted ∙ sym (accepted file m B.passed).count in
        let s : Pair.PairIs (without_prefixes T) n n token1 token2 b =
        subst (λ (t : Tables). Pair.PairIs (without_prefixes t) n n token1 token2 b) f.same p in
        pair_is T m B token1 token2 b (subst (λ (x : ℕ). Pair.PairIs (without_prefixes T) x x token1 token2 b) q s)
        ∙ ap (λ (x : ℕ). passes (dictionary_of file) x token1 token2) (count_is T m B))
