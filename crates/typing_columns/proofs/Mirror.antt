-- Typed bytes that stand in `reading` from its end back. Assumes nothing.
use mathlib.Core.Path.{◌≡◌, sym, ap, ap₂, ◌∙◌}
use mathlib.Core.List.{List, [], ◌∷◌, reverse, reverse-append}
use Prim.Native.Nat.{ℕ, zero, suc, ◌-◌}
use native.Mathlib.Omega.{arith}
use lib.ListN.{get_or, take, drop, drop_of_length-le}
use lib.Seq.{take-suc, drop-cons}
use Rattle.typing_columns.specs.Steps.{Mirrored}

module _ (bytes reading : List ℕ) where
  behind : (m : ℕ) → Mirrored bytes reading m → drop (4096 - m) reading ≡ reverse (take m bytes)
  behind zero M = drop_of_length-le reading {i = 4096} (omega (arith, M.size))
  behind (suc m) M =
      let k : ℕ = 4096 - suc m in
      let h = M.fits in
      let z : suc k ≡ 4096 - m = omega arith in
      let w : k ≡ 4095 - m = omega arith in
      let b : get_or reading k 0 ≡ get_or bytes m 0 = ap (λ (j : ℕ). get_or reading j 0) w ∙ M.same m (omega arith) in
      let ih = behind m (record { size = M.size; bytes_size = M.bytes_size; fits = omega arith; same = λ j l. M.same j (omega arith) }) in
      drop-cons reading k 0 (omega (arith, M.size))
      ∙ ap₂ (λ (x : ℕ) (xs : List ℕ). x ∷ xs) b (ap (λ (j : ℕ). drop j reading) z ∙ ih)
      ∙ sym (ap reverse (take-suc bytes m 0 (omega (arith, M.bytes_size))) ∙ reverse-append (take m bytes) (get_or bytes m 0 ∷ []))

  -- the text that prepending the first i + 1 bytes gives
  pub mirror_text : (i : ℕ) → Mirrored bytes reading (suc i) → drop (4095 - i) reading ≡ reverse (take (suc i) bytes)
  mirror_text i M = let z : 4095 - i ≡ 4096 - suc i = omega arith in ap (λ (k : ℕ). drop k reading) z ∙ behind (suc i) M
