-- A row that begins a text and has no child that does is the longest. Assumes nothing.
use mathlib.Core.Path.{◌≡◌, sym}
use mathlib.Core.List.{List}
use mathlib.Core.Logic.{◌⊎◌, inl, inr, ⊎_elim}
use Prim.Native.Nat.{ℕ, zero, suc, ◌≤◌, ◌<◌}
use native.Mathlib.Nat.{eq-or-lt_of_le}
use native.Mathlib.Decide.{dec_lt}
use native.Mathlib.Omega.{arith}
use lib.ListN.{length}
use Rattle.theory.specs.Dictionary.{none}
use Rattle.placed_rows.specs.Texts.{Begins}
use Rattle.placed_rows.proofs.Beginning.{through, both, same_length}
use Rattle.placed_rows.proofs.Chains.{other}
use Rattle.placed_rows.specs.Longest.{Known, Longest, Prefix}
use Rattle.forest.specs.Words.{Forest}
use Rattle.placed_rows.proofs.Chains as chains

module _ (R : ℕ → List ℕ) (par : ℕ → ℕ) (K : ℕ → Type 0) (F : Forest R par K) where
  pub filled : (d : ℕ) → K d → 0 < length (R d)
  filled d s = omega (arith, (F.prefix d s).shorter)

  root-length : (p : ℕ) → p ≡ none → length (R p) ≡ 0
  root-length = chains.root-length R K F.root filled F.distinct

  same : (p q : ℕ) → Known K p → Known K q → R p ≡ R q → p ≡ q
  same = chains.same_row R K F.root filled F.distinct

  module _ (t : List ℕ) (p : ℕ) (k : Known K p) (b : Begins (R p) t) (last : (c : ℕ) → K c → par c ≡ p → Begins (R c) t → ⊥) where
    at_least : (d : ℕ) → K d → Begins (R d) t → length (R p) < length (R d) → Known K p → length (R p) ≤ length (R (par d))
    at_least d s x h (inl e) = omega (arith, root-length p e)
    at_least d s x h (inr e) = (F.prefix d s).longest p e (other R p d h) (both (R p) (R d) t b x (omega arith))

    nothing-longer : (m d : ℕ) → length (R d) ≤ m → K d → Begins (R d) t → length (R p) < length (R d) → ⊥
    nothing-longer zero d hm s x h = omega arith
    nothing-longer (suc m) d hm s x h = go (eq-or-lt_of_le (at_least d s x h k)) (F.prefix d s) (nothing-longer m (par d))
      where
        go : (length (R p) ≡ length (R (par d))) ⊎ (length (R p) < length (R (par d))) → Prefix R K d (par d)
            → (length (R (par d)) ≤ m → K (par d) → Begins (R (par d)) t → length (R p) < length (R (par d)) → ⊥) → ⊥
        go (inl e) q ih =
            let y = through (R (par d)) (R d) t q.begins x in
            let z = same_length (R p) (R (par d)) (both (R p) (R (par d)) t b y (omega arith)) e in
            last d s (sym (same p (par d) k q.known z)) x
        go (inr l) q ih = ⊎_elim
            (λ n. let z = root-length (par d) n in omega arith)
            (λ n. ih (let z = q.shorter in omega arith) n (through (R (par d)) (R d) t q.begins x) l)
            q.known

    pub no-child : Longest R K t p
    no-child = record {
      known = k;
      begins = b;
      longest = λ d s x. go d s x (dec_lt (length (R p)) (length (R d)));
    }
      where
        go : (d : ℕ) → K d → Begins (R d) t → Dec (length (R p) < length (R d)) → length (R d) ≤ length (R p)
        go d s x (yes h) = absurd (nothing-longer (length (R d)) d (omega arith) s x h)
        go d s x (no h) = omega arith
