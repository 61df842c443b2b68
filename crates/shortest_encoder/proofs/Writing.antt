-- Codes are written to the front of the output. Assumes nothing.
use mathlib.Core.Path.{◌≡◌, refl, sym, ap, ◌∙◌}
use mathlib.Core.List.{List, [], ◌++◌}
use Prim.Native.Nat.{ℕ, ◌+◌, ◌≤◌, ◌<◌}
use native.Mathlib.Decide.{ℕ_discrete}
use native.Mathlib.Omega.{arith}
use lib.ListN.{length, length-set, length-drop, get_or, drop, set}
use lib.Seq.{get_or-set_same, get_or-set_other, drop-set-lt, drop-drop}
use Rattle.phrase_file.proofs.Filling.{Filled, filled-all}
use Rattle.theory.specs.Dictionary.{Dictionary, spell}
use Rattle.theory.proofs.PairCheck.{Lawful}
use Rattle.theory.proofs.Decoding.{codes_fit}
use Rattle.shortest_encoder.specs.Encoders.{Written, Codes}

pub written_start : (n : ℕ) (text out : List ℕ) → Written n text out out 0
written_start n text out = record { few = omega arith; size = refl; beyond = refl; rows = λ i h. absurd (omega arith) }

pub written-more : (n : ℕ) (text out₀ out : List ℕ) (k c : ℕ) → Written n text out₀ out k → length text ≤ length out₀ → k < length text → c < n
    → Written n text out₀ (set out k c) (k + 1)
written-more n text out₀ out k c W room h hc = record {
  few = omega arith;
  size = length-set out k c ∙ W.size;
  beyond = drop-set-lt (k + 1) out k c (omega arith) ∙ sym (drop-drop 1 k out) ∙ ap (drop 1) W.beyond ∙ drop-drop 1 k out₀;
  rows = λ i l. go i l (ℕ_discrete i k);
}
  where
    go : (i : ℕ) → i < k + 1 → Dec (i ≡ k) → get_or (set out k c) i 0 < n
    go i l (yes e) = rw (e, get_or-set_same out k c 0 (omega (arith, W.size))) hc
    go i l (no e) = rw (get_or-set_other out k i c 0 e) (W.rows i (omega arith))

-- all codes are written
pub all-written : (w out₀ out : List ℕ) (k : ℕ) (rest : List ℕ) → length w ≤ length out₀ → Filled w out₀ k rest out → rest ≡ [] → Codes w out₀ out k
all-written w out₀ out k rest room f e =
    let q : k ≡ length w = omega (arith, f.few, simp length-drop at (ap length (f.left ∙ e))) in
    record { count = q; codes = filled-all w out₀ room k rest out f e ∙ ap (λ (l : ℕ). w ++ drop l out₀) (sym q) }

-- codes that spell a text have room where its bytes have
pub codes_room : (D : Dictionary) → Lawful D → (text out w : List ℕ) → spell D w ≡ text → length text ≤ length out → length w ≤ length out
codes_room D A text out w s h = omega (arith, codes_fit D A w, ap length s)
