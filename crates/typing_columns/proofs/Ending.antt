-- Whether a row ends the typed bytes: the test on texts and the definition's. Assumes nothing.
use mathlib.Core.Path.{◌≡◌, sym, ap, ap₂, ◌∙◌}
use mathlib.Core.List.{List, ◌++◌, reverse-reverse}
use mathlib.Core.Bool.{Bool, true, false}
use Prim.Native.Nat.{ℕ, suc, ◌+◌, ◌-◌, ◌<◌}
use native.Mathlib.Numerals.{add-one}
use native.Mathlib.Omega.{arith}
use lib.ListN.{length, length-append, length-drop, take, drop, take-append-drop}
use lib.Seq.{length-take-le, take_all}
use lib.Dec.{leb}
use borrow.Author.Tests.{le-leb}
use Rattle.placed_rows.specs.Rows.{row}
use Rattle.placed_rows.specs.Texts.{begins, facing}
use Rattle.placed_rows.proofs.Beginning.{iff, begins-split, split-begins}
use Rattle.placed_rows.proofs.Facing.{ends-begins, begins-ends}
use Rattle.theory.specs.Dictionary.{Dictionary}
use Rattle.theory.specs.Typing.{Side, append, prepend, in_order}
use Rattle.theory.proofs.Lists.{and_both, equal_eq, equal_refl}
use Rattle.theory.proofs.TypingLists.{and-true, cut_right}
use Rattle.theory.proofs.Sides.{length-in_order}
use Rattle.end_code.specs.declared.Side as Declared
use Rattle.end_code.specs.declared.Side.TheVariants.{Append, Prepend}
use Rattle.end_code.specs.Sides.{side_of}
use Rattle.typing_columns.specs.Steps.{ends_bytes, EndsReady}
use Rattle.built_tables.specs.Built.{dictionary_of}
use Rattle.typing_columns.proofs.Mirror.{mirror_text}
use Rattle.typing_columns.proofs.Rows.{row_read}

module _ (D : Dictionary) (side : Side) (bytes : List ℕ) (i c : ℕ) (h : i < length bytes) where
  abbrev b : List ℕ
  b = D.bytes c

  abbrev t : List ℕ
  t = take (suc i) bytes

  t-length : length t ≡ suc i
  t-length = length-take-le (suc i) bytes h

  ended : ends_bytes D side bytes i c ≡ true → begins (facing true (in_order side b)) (facing true t) ≡ true
  unfolding ends_bytes
  ended e =
      let q = and_both (leb (length b) (suc i)) _ e in
      let m : ℕ = suc i - length b in
      split-begins _ _
      (ends-begins (in_order side b) t (record { before = take m t; split = sym (take-append-drop m t) ∙ ap (λ (l : List ℕ). take m t ++ l) (equal_eq _ _ q.1) }))

  begun : begins (facing true (in_order side b)) (facing true t) ≡ true → ends_bytes D side bytes i c ≡ true
  unfolding ends_bytes
  begun e =
      let s = begins-ends (in_order side b) t (begins-split _ _ e) in
      let l = length-in_order side b in
      let cut : drop (suc i - length b) t ≡ in_order side b =
      ap₂ (λ (x y : ℕ). drop (x - y) t) (sym t-length) (sym l) ∙ cut_right t s.before (in_order side b) s.split in
      and-true
      (le-leb (length b) (suc i) (omega (arith, l, t-length, ap (length {A = ℕ}) s.split, length-append s.before (in_order side b))))
      (rw cut (equal_refl (in_order side b)))

  ends_test : begins (facing true (in_order side b)) (facing true t) ≡ ends_bytes D side bytes i c
  ends_test = iff _ _ begun ended

-- row c as it is read
module _ (file places : List ℕ) (s : Declared.Side) (n : ℕ) (bytes reading : List ℕ) (i c : ℕ) (R : EndsReady file places n bytes reading i c)
    (t : List ℕ) (t-is : t ≡ row file places n c) where
  inside : i < length bytes
  inside = omega (arith, R.mirrored.fits, R.mirrored.bytes_size)

  read : t ≡ (dictionary_of file).bytes c
  read = row_read file places n c t R.places_ready R.row t-is

  -- in appending it ends the bytes
  pub ends-appended : s ≡ Append → (r : Bool) → r ≡ begins (facing true t) (facing true (take (i + 1) bytes)) → r ≡ ends_bytes (dictionary_of file) (side_of s) bytes i c
  ends-appended z r e = e ∙ rw (z, read, add-one) (ends_test (dictionary_of file) append bytes i c inside)

  -- in prepending it begins the text
  pub ends-prepended : s ≡ Prepend → (r : Bool) → r ≡ begins (facing false t) (facing false (take (length reading - (4095 - i)) (drop (4095 - i) reading)))
      → r ≡ ends_bytes (dictionary_of file) (side_of s) bytes i c
  unfolding facing
  ends-prepended z r e =
      e
      ∙ ap₂ begins
      (read ∙ sym (reverse-reverse ((dictionary_of file).bytes c)))
      (take_all (length reading - (4095 - i)) (drop (4095 - i) reading) (omega (arith, length-drop (4095 - i) reading)) ∙ mirror_text bytes reading i R.mirrored)
      ∙ rw z (ends_test (dictionary_of file) prepend bytes i c inside)
