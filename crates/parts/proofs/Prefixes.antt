-- The rows and the prefixes that build has found, as those of the dictionary with whatever parts are known. Assumes nothing.
use mathlib.Core.Path.{◌≡◌, refl, sym, ap, ◌∙◌}
use mathlib.Core.Logic.{◌⊎◌, inl, inr, ⊎_elim}
use mathlib.Core.List.{List, [], ◌∷◌, ◌++◌}
use mathlib.Core.Option.{Option}
use Prim.Native.Nat.{ℕ, suc, ◌-◌, ◌≤◌, ◌<◌}
use native.Mathlib.Omega.{arith}
use lib.ListN.{length, get_or, take, drop}
use lib.Seq.{split_at, get_or_at, length-take-le}
use Rattle.theory.specs.Lists.{first_or}
use Rattle.theory.specs.Dictionary.{Dictionary, none}
use Rattle.theory.specs.Parts.{Parts, bytes_of, with_parts, prefixes, prefix}
use Rattle.theory.proofs.RowsAt.{Beginning, Different, rows_in, rows-chain, first-is, first-none}
use Rattle.phrase_file.specs.Form.{rows}
use Rattle.placed_rows.specs.Rows.{row}
use Rattle.placed_rows.specs.Longest.{Below, Prefix}
use Rattle.placed_rows.proofs.Placing.{row-none}
use Rattle.tables.specs.Ready.{PlacesReady}
use Rattle.pair_check.specs.Pair.{Distinct}

-- an element does not depend on the default
default : {A : Type 0} (l : List A) (i : ℕ) (d e : A) → i < length l → get_or l i d ≡ get_or l i e
default l i d e h =
    sym (ap (λ (k : List _). get_or k i e) (split_at l i d h) ∙ get_or_at (take i l) (get_or l i d) (drop (suc i) l) e i (length-take-le i l (omega arith)))

module _ (file places : List ℕ) (n : ℕ) (P : PlacesReady file places n) where
  pub bytes_are : (c : ℕ) → c < n → bytes_of (rows file) c ≡ get_or (rows file) c []
  bytes_are c h = let e = P.count in default (rows file) c ((c - length (rows file)) ∷ []) [] (omega arith)

  -- a row as it is read
  pub row-bytes : (c : ℕ) → c < n → row file places n c ≡ bytes_of (rows file) c
  row-bytes c h = P.rows_are c h ∙ sym (bytes_are c h)

  module _ (distinct : Distinct file) (known : List (Option Parts)) where
    abbrev D : Dictionary
    D = with_parts (rows file) known

    pub different : Different (with_parts (rows file) known)
    different =
        let e = P.count in
        record {
          filled = λ c h. rw (bytes_are c (omega arith)) (P.filled c (omega arith));
          distinct = λ u v hu hv s. distinct u v hu hv (sym (bytes_are u (omega arith)) ∙ s ∙ bytes_are v (omega arith));
        }

    module _ (c q : ℕ) (h : c < n) (X : Prefix (row file places n) (Below n) c q) where
      -- a row that begins row c and is shorter is no longer than its prefix
      within : (d : ℕ) → Beginning D (length (bytes_of (rows file) c) - 1) (bytes_of (rows file) c) d → (d < n) × (length (bytes_of (rows file) d) ≤ length (row file places n q))
      within d b =
          let e = P.count in
          let k : d < n = omega (arith, b.known) in
          let s = b.short in
          let f = different.filled c (omega arith) in (
            k,
            omega (
              arith,
              ap length (row-bytes d k),
              X.longest d k (λ z. omega (arith, ap (λ (x : ℕ). length (bytes_of (rows file) x)) z))
                  (record { rest = b.rest; split = row-bytes c h ∙ b.begins ∙ ap (λ (l : List ℕ). l ++ b.rest) (sym (row-bytes d k)) }),
            ),
          )

      prefix-first : first_or none (prefixes D c) ≡ q
      prefix-first = ⊎_elim
          (λ z. first-none D different (length (bytes_of (rows file) c) - 1) (bytes_of (rows file) c)
          (λ d b. let k = within d b in omega (arith, k.1, different.filled d b.known, ap length (ap (row file places n) z ∙ row-none file places n none (let f = P.placed.few in omega arith))))
          ∙ sym z)
          (λ k. first-is D different (length (bytes_of (rows file) c) - 1) (bytes_of (rows file) c) q (omega arith) (record {
            beginning = record {
              known = let e = P.count in omega arith;
              short = omega (arith, X.shorter, ap length (row-bytes c h), ap length (row-bytes q k));
              rest = X.begins.rest;
              begins = sym (row-bytes c h) ∙ X.begins.split ∙ ap (λ (l : List ℕ). l ++ X.begins.rest) (row-bytes q k);
            };
            longest = λ d b. let m = within d b in omega (arith, m.1, ap length (row-bytes q k));
          }))
          X.known

      pub prefix-is : q ≡ prefix (with_parts (rows file) known) c
      unfolding prefix
      prefix-is = sym prefix-first

      -- the next row to try after row c
      pub record Next : Type 0 where
        pub row_below : q < n
        pub tried : prefixes (with_parts (rows file) known) c ≡ q ∷ prefixes (with_parts (rows file) known) q

      pub prefix_cases : ((q ≡ none) × (prefixes (with_parts (rows file) known) c ≡ [])) ⊎ Next
      prefix_cases = go (prefixes D c) refl
        where
          go : (cs : List ℕ) → prefixes D c ≡ cs → ((q ≡ none) × (prefixes D c ≡ [])) ⊎ Next
          go [] e = inl (sym prefix-first ∙ ap (first_or none) e, e)
          go (p ∷ cs) e =
              let i = rows_in D (length (bytes_of (rows file) c) - 1) (bytes_of (rows file) c) p (rw e (inl refl)) in
              let z : q ≡ p = sym prefix-first ∙ ap (first_or none) e in
              inr (record {
                row_below = let m = P.count in omega (arith, i.known);
                tried = e ∙ ap (λ (xs : List ℕ). p ∷ xs) (rows-chain D (length (bytes_of (rows file) c) - 1) (bytes_of (rows file) c) p cs (omega arith) e) ∙ ap (λ (x : ℕ). x ∷ prefixes D x) (sym z);
              })
