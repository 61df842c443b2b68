-- The book is the typed bytes as a text: the first typed byte is the first of the text in appending and the last in prepending. Assumes nothing.
use mathlib.Core.Path.{◌≡◌, refl, sym, ap, ◌∙◌}
use mathlib.Core.List.{List, [], ◌∷◌, ◌++◌, reverse, reverse-cons, reverse-append}
use Prim.Native.Nat.{ℕ, zero, suc, ◌-◌, ◌<◌}
use native.Mathlib.Omega.{arith}
use lib.ListN.{length, get_or, take, drop, length-append, length-drop, length-reverse, take-append-drop, get_or-append}
use lib.Seq.{drop_at, get_or_at, split_at}
use Rattle.theory.specs.Dictionary.{Dictionary, Octets}
use Rattle.theory.specs.Merge.{encode}
use Rattle.theory.specs.Typing.{Side, append, prepend, in_order, end_code, code_at, count_at, entry_at}
use Rattle.typing_book.specs.Book.{added, kept, byte_at, book_record}

pub octets-append : (s t : List ℕ) → Octets s → Octets t → Octets (s ++ t)
octets-append [] t o p = p
octets-append (b ∷ s) t o p = (o.0, octets-append s t o.1 p)

pub octets-take : (k : ℕ) (s : List ℕ) → Octets s → Octets (take k s)
octets-take zero s o = tt
octets-take (suc k) [] o = tt
octets-take (suc k) (b ∷ s) o = (o.0, octets-take k s o.1)

-- adding bytes to the book is typing them
pub added_is : (side : Side) (s bytes : List ℕ) → added side (in_order side s) bytes ≡ in_order side (s ++ bytes)
added_is append s bytes = refl
added_is prepend s bytes = sym (reverse-append s bytes)

-- a text cut in two, turned round
cut-back : (k : ℕ) (s : List ℕ) → reverse s ≡ reverse (drop k s) ++ reverse (take k s)
cut-back k s = ap reverse (sym (take-append-drop k s)) ∙ reverse-append (take k s) (drop k s)

-- what the book keeps are the first bytes typed
pub kept-is : (side : Side) (k : ℕ) (s : List ℕ) → kept side k (in_order side s) ≡ in_order side (take k s)
kept-is append k s = refl
kept-is prepend k s =
    ap (drop (length (reverse s) - k)) (cut-back k s)
    ∙ drop_at (reverse (drop k s)) (reverse (take k s)) (length (reverse s) - k) (simp (length-reverse, length-drop))

-- byte i of the book, as document 01 counts it, is byte i typed
pub byte_is : (side : Side) (s : List ℕ) (i : ℕ) → i < length s → byte_at side (in_order side s) i ≡ get_or s i 0
byte_is append s i h = refl
byte_is prepend s i h =
    ap (λ (l : List ℕ). get_or l (length (reverse s) - suc i) 0) turned
    ∙ get_or-append (reverse after ++ get_or s i 0 ∷ []) (reverse (take i s)) 0 (length (reverse s) - suc i) (simp (length-append, length-reverse, length-drop) (omega arith))
    ∙ get_or_at (reverse after) (get_or s i 0) [] 0 (length (reverse s) - suc i) (simp (length-reverse, length-drop))
  where
    after : List ℕ
    after = drop (suc i) s

    turned : reverse s ≡ (reverse after ++ get_or s i 0 ∷ []) ++ reverse (take i s)
    turned =
        ap reverse (split_at s i 0 h)
        ∙ reverse-append (take i s) (get_or s i 0 ∷ after)
        ∙ ap (λ (l : List ℕ). l ++ reverse (take i s)) (reverse-cons (get_or s i 0) after)

-- record i of the book is record i of the typed bytes
pub record_is : (D : Dictionary) (side : Side) (s : List ℕ) (i : ℕ) → i < length s → book_record D side (in_order side s) i ≡ entry_at D side s i
unfolding book_record entry_at code_at count_at
record_is D side s i h =
    let b = byte_is side s i h in
    let k = kept-is side (suc i) s in
    λ j. record { byte = b j; code = end_code side (encode D (k j)); count = length (encode D (k j)) }
