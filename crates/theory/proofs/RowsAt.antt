-- The rows that begin a text, longest first: each is there once, every such row is, and behind each stand its prefixes (theorem 5).
use mathlib.Core.Path.{◌≡◌, refl, sym, ap, ap₂, ◌∙◌}
use mathlib.Core.Logic.{◌⊎◌, inl, inr, ⊎_elim}
use mathlib.Core.List.{List, [], ◌∷◌, ◌++◌}
use Prim.Native.Nat.{ℕ, zero, suc, ◌-◌, ◌≤◌, ◌<◌}
use native.Mathlib.Nat.{eq-or-lt_of_le}
use native.Mathlib.Omega.{arith}
use lib.ListN.{length, length-take, take, drop, take-append-drop}
use lib.Seq.{take_at, take-take}
use borrow.Author.Tests.{lt-ltb, le-ltb}
use Rattle.theory.specs.Lists.{first_or, In}
use Rattle.theory.specs.Dictionary.{Dictionary, none}
use Rattle.theory.specs.Merge.{row_of}
use Rattle.theory.specs.Parts.{rows_up_to, rows_at, prefixes}
use Rattle.theory.proofs.Lists.{cons_head, cons_tail, nil-cons, lt_or_ge}
use Rattle.theory.proofs.PairCheck.{Lawful}
use Rattle.theory.proofs.Merge.{row_below-is, row_below-found, distinct}

module _ (D : Dictionary) where
  up_to_row : (l : ℕ) (t : List ℕ) → row_of D (take (suc l) t) < D.count → rows_up_to D (suc l) t ≡ row_of D (take (suc l) t) ∷ rows_up_to D l t
  up_to_row l t h = rw (lt-ltb (row_of D (take (suc l) t)) D.count h, rows_up_to)

  up_to_none : (l : ℕ) (t : List ℕ) → D.count ≤ row_of D (take (suc l) t) → rows_up_to D (suc l) t ≡ rows_up_to D l t
  up_to_none l t h = rw (le-ltb (row_of D (take (suc l) t)) D.count h, rows_up_to)

  begun : (c : ℕ) (l : ℕ) (t : List ℕ) → D.bytes c ≡ take l t → (r : List ℕ) × (t ≡ D.bytes c ++ r)
  begun c l t e = (drop l t, sym (take-append-drop l t) ∙ ap (λ (s : List ℕ). s ++ drop l t) (sym e))

  row_is : (b : List ℕ) → row_of D b < D.count → D.bytes (row_of D b) ≡ b
  row_is b h = row_below-is D D.count b h

  -- what is known of a row that is in the list
  pub record Beginning (l : ℕ) (t : List ℕ) (c : ℕ) : Type 0 where
    pub known : c < D.count
    pub short : length (D.bytes c) ≤ l
    pub rest : List ℕ
    pub begins : t ≡ D.bytes c ++ rest

  pub rows_in : (l : ℕ) (t : List ℕ) (c : ℕ) → In c (rows_up_to D l t) → Beginning l t c
  rows_in zero t c m = absurd m
  rows_in (suc l) t c m = ⊎_elim (here (rows_in l t c)) (λ h. lift (rows_in l t c (rw (up_to_none l t h) at m))) (lt_or_ge (row_of D (take (suc l) t)) D.count)
    where
      lift : Beginning l t c → Beginning (suc l) t c
      lift b = record { known = b.known; short = let s = b.short in omega arith; rest = b.rest; begins = b.begins }

      here : (In c (rows_up_to D l t) → Beginning l t c) → row_of D (take (suc l) t) < D.count → Beginning (suc l) t c
      here ih h = ⊎_elim
          (λ e. let i : D.bytes c ≡ take (suc l) t = ap D.bytes e ∙ row_is (take (suc l) t) h in
          let b = begun c (suc l) t i in
          record { known = rw e h; short = omega (arith, ap length i, length-take (suc l) t); rest = b.0; begins = b.1 })
          (λ r. lift (ih r))
          (rw (up_to_row l t h) at m)

  pub rows-known : (l : ℕ) (t : List ℕ) (c : ℕ) → In c (rows_up_to D l t) → c < D.count
  rows-known l t c m = (rows_in l t c m).known

  pub rows-begin : (l : ℕ) (t : List ℕ) (c : ℕ) → In c (rows_up_to D l t) → (r : List ℕ) × (t ≡ D.bytes c ++ r)
  rows-begin l t c m = let b = rows_in l t c m in (b.rest, b.begins)

  pub rows_short : (l : ℕ) (t : List ℕ) (c : ℕ) → In c (rows_up_to D l t) → length (D.bytes c) ≤ l
  rows_short l t c m = (rows_in l t c m).short

  -- rows of at most l bytes begin t if they begin more of it
  rows_take : (l k : ℕ) (t : List ℕ) → l ≤ k → rows_up_to D l (take k t) ≡ rows_up_to D l t
  rows_take zero k t h = refl
  rows_take (suc l) k t h = go (rows_take l k t (omega arith)) (lt_or_ge (row_of D (take (suc l) t)) D.count)
    where
      same : row_of D (take (suc l) (take k t)) ≡ row_of D (take (suc l) t)
      same = ap (row_of D) (take-take (suc l) k t h)

      go : rows_up_to D l (take k t) ≡ rows_up_to D l t → (row_of D (take (suc l) t) < D.count) ⊎ (D.count ≤ row_of D (take (suc l) t))
          → rows_up_to D (suc l) (take k t) ≡ rows_up_to D (suc l) t
      go ih (inl g) = up_to_row l (take k t) (rw same g) ∙ ap₂ (λ (x : ℕ) (xs : List ℕ). x ∷ xs) same ih ∙ sym (up_to_row l t g)
      go ih (inr g) = up_to_none l (take k t) (rw same g) ∙ ih ∙ sym (up_to_none l t g)

  -- behind the longest one stand its prefixes
  pub rows-chain : (l : ℕ) (t : List ℕ) (c : ℕ) (cs : List ℕ) → l ≤ length t → rows_up_to D l t ≡ c ∷ cs → cs ≡ prefixes D c
  rows-chain zero t c cs hl e = absurd (nil-cons e)
  rows-chain (suc l) t c cs hl e = ⊎_elim here (λ h. rows-chain l t c cs (omega arith) (rw (up_to_none l t h) at e)) (lt_or_ge (row_of D (take (suc l) t)) D.count)
    where
      here : row_of D (take (suc l) t) < D.count → cs ≡ prefixes D c
      here h =
          let e' : row_of D (take (suc l) t) ∷ rows_up_to D l t ≡ c ∷ cs = sym (up_to_row l t h) ∙ e in
          let b : D.bytes c ≡ take (suc l) t = ap D.bytes (sym (cons_head e')) ∙ row_is (take (suc l) t) h in
          let s : length (D.bytes c) - 1 ≡ l = omega (arith, ap length b, length-take (suc l) t) in
          sym (cons_tail e') ∙ sym (rows_take l (suc l) t (omega arith)) ∙ ap₂ (rows_up_to D) (sym s) (sym b)

  -- rows of one byte or more that differ from each other
  pub record Different : Type 0 where
    pub filled : (c : ℕ) → c < D.count → 0 < length (D.bytes c)
    pub distinct : (u v : ℕ) → u < D.count → v < D.count → D.bytes u ≡ D.bytes v → u ≡ v

  module _ (F : Different) where
    pub row-found : (c : ℕ) (b : List ℕ) → c < D.count → D.bytes c ≡ b → row_of D b ≡ c
    row-found c b h e = row_below-found D F.distinct D.count c b (omega arith) h e

    -- a row that begins t is the row with as many of the first bytes of t
    pub front : (t : List ℕ) (c : ℕ) (r : List ℕ) → c < D.count → t ≡ D.bytes c ++ r → row_of D (take (length (D.bytes c)) t) ≡ c
    front t c r h e = row-found c (take (length (D.bytes c)) t) h (sym (ap (take (length (D.bytes c))) e ∙ take_at (D.bytes c) r (length (D.bytes c)) refl))

    pub rows-every : (l : ℕ) (t : List ℕ) (c : ℕ) (r : List ℕ) → c < D.count → t ≡ D.bytes c ++ r → length (D.bytes c) ≤ l → In c (rows_up_to D l t)
    rows-every zero t c r h e s = absurd (omega (arith, F.filled c h))
    rows-every (suc l) t c r h e s = go (eq-or-lt_of_le s) (λ s'. rows-every l t c r h e s') (lt_or_ge (row_of D (take (suc l) t)) D.count)
      where
        go : (length (D.bytes c) ≡ suc l) ⊎ (length (D.bytes c) < suc l) → (length (D.bytes c) ≤ l → In c (rows_up_to D l t))
            → (row_of D (take (suc l) t) < D.count) ⊎ (D.count ≤ row_of D (take (suc l) t)) → In c (rows_up_to D (suc l) t)
        go (inl q) ih (inl g) = rw (up_to_row l t g) (inl (sym (ap (λ (k : ℕ). row_of D (take k t)) (sym q) ∙ front t c r h e)))
        go (inl q) ih (inr g) = absurd (omega (arith, ap (λ (k : ℕ). row_of D (take k t)) (sym q) ∙ front t c r h e))
        go (inr q) ih (inl g) = rw (up_to_row l t g) (inr (ih (omega arith)))
        go (inr q) ih (inr g) = rw (up_to_none l t g) (ih (omega arith))

    -- q is the longest of the rows that begin t and have at most l bytes
    pub record LongestUpTo (l : ℕ) (t : List ℕ) (q : ℕ) : Type 0 where
      pub beginning : Beginning l t q
      pub longest : (d : ℕ) → Beginning l t d → length (D.bytes d) ≤ length (D.bytes q)

    -- then it is the first of the list
    pub first-is : (l : ℕ) (t : List ℕ) (q : ℕ) → l ≤ length t → LongestUpTo l t q → first_or none (rows_up_to D l t) ≡ q
    first-is l t q hl L = go (rows_up_to D l t) refl
      where
        b : Beginning l t q
        b = L.beginning

        go : (cs : List ℕ) → rows_up_to D l t ≡ cs → first_or none cs ≡ q
        go [] e = absurd (let m : In q [] = rw e at (rows-every l t q b.rest b.known b.begins b.short) in m)
        go (c ∷ cs) e = ⊎_elim sym
            (λ m. let s = rows_short (length (D.bytes c) - 1) (D.bytes c) q (rw (rows-chain l t c cs hl e) at m) in
            let k = rows_in l t c (rw e (inl refl)) in
            absurd (omega (arith, L.longest c k, F.filled c k.known)))
            (rw e at (rows-every l t q b.rest b.known b.begins b.short))

    pub first-none : (l : ℕ) (t : List ℕ) → ((d : ℕ) → Beginning l t d → ⊥) → first_or none (rows_up_to D l t) ≡ none
    first-none l t n = go (rows_up_to D l t) refl
      where
        go : (cs : List ℕ) → rows_up_to D l t ≡ cs → first_or none cs ≡ none
        go [] e = refl
        go (c ∷ cs) e = absurd (n c (rows_in l t c (rw e (inl refl))))

  module _ (A : Lawful D) where
    pub filled : (c : ℕ) → 0 < length (D.bytes c)
    filled c = go (D.bytes c) refl
      where
        go : (b : List ℕ) → D.bytes c ≡ b → 0 < length (D.bytes c)
        go [] e = absurd (A.laws.filled c e)
        go (x ∷ b) e = rw e (omega arith)

    pub different : Different
    different = record { filled = λ c _. filled c; distinct = distinct D A }

    -- each byte's own row begins what it begins
    pub rows-some : (b : ℕ) (t : List ℕ) → D.code b < D.count → In (D.code b) (rows_at D (b ∷ t))
    rows-some b t h =
        let e = A.laws.byte b in
        rows-every different (length (b ∷ t)) (b ∷ t) (D.code b) t h (ap (λ (s : List ℕ). s ++ t) (sym e)) (omega (arith, ap length e))
