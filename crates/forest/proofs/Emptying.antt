-- A cleared area lists no row. Assumes nothing.
use mathlib.Core.Path.{◌≡◌, ◌∙◌}
use mathlib.Core.List.{List, []}
use mathlib.Core.Bool.{Bool}
use Prim.Native.Nat.{ℕ, ◌≤◌, ◌<◌}
use native.Mathlib.Omega.{arith}
use lib.ListN.{length, get_or, drop, replicate, length-append, length-drop, length-replicate, get_or-replicate, get_or-append}
use Rattle.theory.specs.Dictionary.{none}
use Rattle.forest.specs.Words.{Mem, In, Indexed}
use Rattle.forest.specs.Growth.{cleared}
use Rattle.forest.proofs.Walking.{walk_out}

pub length-cleared : (area : List ℕ) → 8448 ≤ length area → length (cleared area) ≡ length area
unfolding cleared
length-cleared area h = length-append (replicate 8448 none) (drop 8448 area) ∙ omega (arith, length-replicate 8448 none, length-drop 8448 area)

head-none : (area : List ℕ) (h : ℕ) → h < 8448 → get_or (cleared area) h 0 ≡ none
unfolding cleared
head-none area h l = get_or-append (replicate 8448 none) (drop 8448 area) 0 h (omega (arith, length-replicate 8448 none)) ∙ get_or-replicate 8448 h none 0 l

pub cleared-none : (R : ℕ → List ℕ) (n : ℕ) (area : List ℕ) (S : ℕ → Bool) → R none ≡ [] → n ≤ 4096 → ((d : ℕ) → In S d → ⊥) → Indexed R n (cleared area) S
cleared-none R n area S root N void = record {
  par = λ d. none;
  forest = record {
    root = root;
    distinct = λ c d s. absurd (void c s);
    prefix = λ d s. absurd (void d s);
  };
  few = N;
  below = λ d s. absurd (void d s);
  bytes = λ d s. absurd (void d s);
  listed = λ d s. absurd (void d s);
  marks = λ d s. absurd (void d s);
  single = λ d s. absurd (void d s);
  only = λ h w l m. absurd (let z : Mem w [] = rw (head-none area h (omega arith), walk_out n (cleared area) n none (omega arith)) at m in z);
}
