-- From the byte's own row on, row by row: what is reached stands beside the bytes before it. Assumes nothing.
use mathlib.Core.Path.{◌≡◌, refl, sym, ap, ◌∙◌}
use mathlib.Core.Logic.{⊎_elim}
use mathlib.Core.List.{List, [], ◌∷◌, ◌++◌, reverse-append}
use Prim.Native.Nat.{ℕ, suc, ◌+◌, ◌-◌, ◌≤◌, ◌<◌}
use native.Mathlib.Omega.{arith}
use lib.ListN.{length, length-append, get_or, take}
use lib.Seq.{length-take-le, take_at, take-take, take-suc}
use Rattle.placed_rows.specs.Rows.{row}
use Rattle.theory.specs.Dictionary.{Dictionary, none}
use Rattle.theory.specs.Merge.{encode}
use Rattle.theory.specs.Typing.{Side, append, prepend, in_order, end_code, code_at}
use Rattle.theory.specs.FirstJoin.{other_part}
use Rattle.theory.proofs.Sides.{in_order_twice, in_order-nil, length-in_order}
use Rattle.theory.proofs.FirstJoin.{beside, Reached, reached-byte, reached-all, EndOf, end_of, reached-end, reached-join}
use Rattle.built_tables.specs.Built.{dictionary_of, Built}
use Rattle.built_tables.proofs.Rows.{lawful-is, known}
use Rattle.end_code.specs.Tables.{RowReady}
use Rattle.end_code.specs.Sides.{other_of}
use Rattle.end_code.specs.Joins.{PartReady, FirstReady, FirstIs}
use Rattle.end_code.specs.Codes.{ByteReady, ByteIs, CodesTo, CodeReady, CodeIs}
use Rattle.end_code.proofs.Sizes.{read-size, row-some}
use Rattle.end_code.proofs.Parts.{part-ready, other_row, other-is}
use Rattle.tables.specs.Tables.{PairTables, with_prefixes}

-- typed bytes in order, and one byte or a row typed beside them
order-beside : (side : Side) (x y : List ℕ) → in_order side (beside side x y) ≡ in_order side x ++ in_order side y
order-beside append x y = refl
order-beside prepend x y = reverse-append y x

order-more : (side : Side) (s : List ℕ) (b : ℕ) → in_order side (s ++ b ∷ []) ≡ beside side (in_order side s) (b ∷ [])
order-more append s b = refl
order-more prepend s b = reverse-append s (b ∷ [])

-- what is left of typed bytes beside a row
left_of_lem : (side : Side) (s rest row : List ℕ) → in_order side s ≡ beside side rest row → (length row ≤ length s) × (rest ≡ in_order side (take (length s - length row) s))
left_of_lem side s rest row e =
    let t : s ≡ in_order side rest ++ in_order side row = sym (in_order_twice side s) ∙ ap (in_order side) e ∙ order-beside side rest row in
    let a = length-in_order side rest in
    let b = length-in_order side row in
    let z : length s ≡ length rest + length row = omega (arith, ap length t, length-append (in_order side rest) (in_order side row)) in (
      omega arith,
      sym (in_order_twice side rest)
          ∙ ap (in_order side) (sym (ap (take (length s - length row)) t ∙ take_at (in_order side rest) (in_order side row) (length s - length row) (omega arith))),
    )

-- code has been reached, beside the first `at` typed bytes
pub record Reaching (P : PairTables) (side : Side) (n : ℕ) (bytes : List ℕ) (i : ℕ) (codes : List ℕ) (code at : ℕ) : Type 0 where
  pub ready : CodeReady P n bytes i codes
  pub row : code < n
  pub within : at ≤ i
  pub built : (prefixes : List ℕ) (B : Built (with_prefixes P prefixes) n) → CodesTo P.file side bytes codes i
      → Reached (dictionary_of P.file) (lawful-is (with_prefixes P prefixes) n B) side (in_order side (take (suc i) bytes)) code (in_order side (take at bytes))

module _ (P : PairTables) (side : Side) (n : ℕ) (bytes : List ℕ) (i : ℕ) (codes : List ℕ) where
  open P use {file, places, lefts, rights, area}

  abbrev D : Dictionary
  D = dictionary_of file

  pub byte-ready : CodeReady P n bytes i codes → ByteReady file places area n bytes i
  byte-ready R = record { places_ready = R.is_in_form.places_ready; area_room = R.is_in_form.area_room; inside = R.inside }

  pub reach-start : CodeReady P n bytes i codes → get_or bytes i 0 < 256 → (r : ℕ) → ByteIs file places area n bytes i r
      → Reaching P side n bytes i codes r i
  reach-start R o r F = record {
    ready = R;
    row = F.row;
    within = omega arith;
    built = λ prefixes B agree.
        let k = (known (with_prefixes P prefixes) n B (get_or bytes i 0 ∷ []) (o, tt)).0 in
        rw (F.built lefts rights prefixes B, take-suc bytes i 0 R.inside, order-more side (take i bytes) (get_or bytes i 0))
        (reached-byte D (lawful-is (with_prefixes P prefixes) n B) side (in_order side (take i bytes)) (get_or bytes i 0) k);
  }

  module _ (code at : ℕ) (S : Reaching P side n bytes i codes code at) where
    is_code : (r : ℕ) → end_code side (encode D (in_order side (take (suc i) bytes))) ≡ r → r ≡ code_at D side bytes i
    unfolding code_at
    is_code r e = sym e

    -- nothing is left before it
    pub reach-all : at ≤ 0 → CodeIs P side n bytes i codes code
    reach-all h = record {
      row = S.row;
      built = λ prefixes B agree.
          let z : at ≡ 0 = omega arith in
          is_code code (reached-all D (lawful-is (with_prefixes P prefixes) n B) side (in_order side (take (suc i) bytes)) code
          (rw in_order-nil at (rw z at (S.built prefixes B agree))));
    }

    module _ (some : 0 < at) where
      pub before_row : get_or codes (at - 1) 0 < n
      before_row = S.ready.before.rows (at - 1) (omega (arith, S.within))

      pub before-inside : at - 1 < length codes
      before-inside = omega (arith, S.within, S.ready.before.room)

      pub join-ready : FirstReady P n (get_or codes (at - 1) 0) code
      join-ready = record { is_in_form = S.ready.is_in_form; row = before_row; typed = S.row }

      size : length (take at bytes) ≡ at
      size = let h = S.within in let g = S.ready.inside in length-take-le at bytes (omega arith)

      -- the end code of the bytes before it
      before-end : (prefixes : List ℕ) (B : Built (with_prefixes P prefixes) n) → CodesTo file side bytes codes i
          → EndOf D (lawful-is (with_prefixes P prefixes) n B) side (in_order side (take at bytes)) (get_or codes (at - 1) 0)
      unfolding code_at
      before-end prefixes B agree =
          let h = S.within in
          let e : suc (at - 1) ≡ at = omega arith in
          let c : get_or codes (at - 1) 0 ≡ end_code side (encode D (in_order side (take at bytes))) = agree (at - 1) (omega arith) ∙ ap (λ (k : ℕ). end_code side (encode D (in_order side (take k bytes)))) e in
          rw c (end_of D (lawful-is (with_prefixes P prefixes) n B) side (in_order side (take at bytes))
          (λ z. omega (arith, ap length z, length-in_order side (take at bytes), size)))

      module _ (r : ℕ) (F : FirstIs P side n (get_or codes (at - 1) 0) code r) where
        pub reach-end : r ≡ none → CodeIs P side n bytes i codes code
        reach-end z = record {
          row = S.row;
          built = λ prefixes B agree.
              is_code code (reached-end D (lawful-is (with_prefixes P prefixes) n B) side (in_order side (take (suc i) bytes)) code (in_order side (take at bytes)) (S.built prefixes B agree)
              (get_or codes (at - 1) 0) (before-end prefixes B agree) r (F.built prefixes B) z);
        }

        module _ (ne : r ≡ none → ⊥) where
          pub joined-row : r < n
          joined-row = ⊎_elim (λ z. absurd (ne z)) (λ h. h) F.bound

          pub joined-part : PartReady P r
          joined-part = part-ready P n S.ready.is_in_form r joined-row

          pub joined-other : (o : ℕ) → o ≡ other_of P side r → o < n
          joined-other o e = rw e (other_row P n S.ready.is_in_form r joined-row side)

          module _ (o len : ℕ) (eo : o ≡ other_of P side r) (el : len ≡ length (row file places n o)) where
            row-ready : RowReady file places n o
            row-ready = record { places_ready = S.ready.is_in_form.places_ready; row = joined-other o eo }

            len_is : len ≡ length (D.bytes o)
            len_is = read-size file places n o len row-ready el

            pub len-some : 0 < len
            len-some = omega (arith, len_is, row-some file places n o row-ready)

            left : (prefixes : List ℕ) (B : Built (with_prefixes P prefixes) n) → CodesTo file side bytes codes i
                → (len ≤ at) × Reached D (lawful-is (with_prefixes P prefixes) n B) side (in_order side (take (suc i) bytes)) r (in_order side (take (at - len) bytes))
            left prefixes B agree =
                let J = reached-join D (lawful-is (with_prefixes P prefixes) n B) side (in_order side (take (suc i) bytes)) code (in_order side (take at bytes)) (S.built prefixes B agree)
                (get_or codes (at - 1) 0) (before-end prefixes B agree) r (F.built prefixes B) ne in
                let p : D.bytes (other_part D side r) ≡ D.bytes o = ap D.bytes (sym (other-is P n S.ready.is_in_form r joined-row prefixes B side) ∙ sym eo) in
                let q = left_of_lem side (take at bytes) J.rest (D.bytes (other_part D side r)) J.split in
                let z : length (D.bytes (other_part D side r)) ≡ len = ap length p ∙ sym len_is in
                let w : length (take at bytes) - length (D.bytes (other_part D side r)) ≡ at - len = rw (size, z) refl in
                let t : take (at - len) (take at bytes) ≡ take (at - len) bytes = take-take (at - len) at bytes (omega arith) in (
                  omega (arith, q.0, z, size),
                  rw (← t, ← w) (rw q.1 at J.reached),
                )

            -- never on the tables of a build
            pub reach-short : at < len → CodeIs P side n bytes i codes code
            reach-short h = record { row = S.row; built = λ prefixes B agree. absurd (omega (arith, (left prefixes B agree).0)) }

            pub reach-join : len ≤ at → Reaching P side n bytes i codes r (at - len)
            reach-join h = record {
              ready = S.ready;
              row = joined-row;
              within = omega (arith, S.within);
              built = λ prefixes B agree. (left prefixes B agree).1;
            }
