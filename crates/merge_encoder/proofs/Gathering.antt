-- The codes at the live places, written one after the other. Assumes nothing.
use mathlib.Core.Path.{◌≡◌, refl, sym, ap, ◌∙◌}
use mathlib.Core.List.{List, [], ◌∷◌, ◌++◌, append-nil}
use mathlib.Core.Bool.{true, false}
use Prim.Native.Nat.{ℕ, suc, ◌+◌, ◌≤◌, ◌<◌}
use native.Mathlib.Numerals.{add-one}
use native.Mathlib.Omega.{arith}
use lib.ListN.{length, length-append, get_or, drop, set}
use lib.Seq.{append_snoc, drop-cons, set_at}
use Rattle.bitfield.specs.Bits.{is_set}
use Rattle.merge_encoder.specs.Live.{live}
use Rattle.merge_encoder.proofs.Living.{live-set, live-clear, live-parts, live-few}

-- the codes at the live places below i stand at the front of out
pub record Gathering (words work : List ℕ) (len : ℕ) (out₀ out : List ℕ) (count i : ℕ) : Type 0 where
  pub few : i ≤ len
  pub size : count ≡ length (live (is_set words) work i 0)
  pub is : out ≡ live (is_set words) work i 0 ++ drop count out₀

module _ (words work : List ℕ) (len : ℕ) (out₀ : List ℕ) where
  module _ (out : List ℕ) (count i : ℕ) (G : Gathering words work len out₀ out count i) where
    pub gather_few : count ≤ i
    gather_few = omega (arith, G.size, live-few (is_set words) work i 0)

    front : (s : List ℕ) → live (is_set words) work 1 i ≡ s → live (is_set words) work (i + 1) 0 ≡ live (is_set words) work i 0 ++ s
    front s e =
        let z : 0 + i ≡ i = omega arith in
        live-parts (is_set words) work i 1 (i + 1) 0 refl ∙ ap (λ (p : ℕ). live (is_set words) work i 0 ++ live (is_set words) work 1 p) z ∙ ap (λ (l : List ℕ). live (is_set words) work i 0 ++ l) e

    pub gather_skip : i < len → is_set words i ≡ false → Gathering words work len out₀ out count (i + 1)
    gather_skip l e =
        let f = front [] (live-clear (is_set words) work 0 i e) ∙ append-nil (live (is_set words) work i 0) in
        record { few = omega arith; size = G.size ∙ ap length (sym f); is = G.is ∙ ap (λ (s : List ℕ). s ++ drop count out₀) (sym f) }

    pub gather_keep : len ≤ length out₀ → i < len → is_set words i ≡ true → Gathering words work len out₀ (set out count (get_or work i 0)) (count + 1) (i + 1)
    gather_keep r l e =
        let A : List ℕ = live (is_set words) work i 0 in
        let x : ℕ = get_or work i 0 in
        let f : live (is_set words) work (i + 1) 0 ≡ A ++ x ∷ [] = front (x ∷ []) (live-set (is_set words) work 0 i e) in
        let d : drop count out₀ ≡ get_or out₀ count 0 ∷ drop (suc count) out₀ = drop-cons out₀ count 0 (omega (arith, gather_few)) in
        record {
          few = omega arith;
          size = omega (arith, ap length f, length-append A (x ∷ []), G.size);
          is = ap (λ (s : List ℕ). set s count x) (G.is ∙ ap (λ (s : List ℕ). A ++ s) d)
              ∙ set_at A (get_or out₀ count 0) (drop (suc count) out₀) x count (sym G.size)
              ∙ sym (append_snoc A x (drop (suc count) out₀))
              ∙ ap (λ (s : List ℕ). s ++ drop (suc count) out₀) (sym f)
              ∙ ap (λ (k : ℕ). live (is_set words) work (i + 1) 0 ++ drop k out₀) (sym (add-one count));
        }
