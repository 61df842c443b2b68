-- The typing book computed on short lists of calls, over document 01's sample file E. Assumes nothing.
use mathlib.Core.Path.{◌≡◌, refl}
use mathlib.Core.Option.{none, some}
use mathlib.Core.List.{List, [], ◌∷◌, map}
use Prim.Native.Nat.{ℕ}
use lib.ListN.{replicate}
use Rattle.theory.specs.Dictionary.{Dictionary}
use Rattle.theory.specs.Merge.{encode}
use Rattle.theory.specs.Parts.{dictionary, parts_below}
use Rattle.theory.specs.Samples.{E, abcd}
use Rattle.theory.specs.Typing.{Side, append, prepend, Entry}
use Rattle.std.specs.Prelude.{Result, Ok, Err}
use Rattle.causes.specs.declared.Cause.{Cause}
use Rattle.causes.specs.declared.Cause.TheVariants.{TooLong, Full}
use Rattle.typing_book.specs.Book.{Call, push, extend, truncate, token_count, book_refusal, book_after, book_answer, book_record}

-- the book after a list of calls
abbrev books : Side → ℕ → List ℕ → List Call → List ℕ
books side size book [] = book
books side size book (call ∷ calls) = books side size (book_after side size book call) calls

-- the answers of a list of calls
abbrev answers : Dictionary → Side → ℕ → List ℕ → List Call → List (Result ℕ Cause)
answers D side size book [] = []
answers D side size book (call ∷ calls) = book_answer D side size book call ∷ answers D side size (book_after side size book call) calls

-- P4 append a, b, c, d
abbrev typed : List Call
typed = push 97 ∷ push 98 ∷ push 99 ∷ push 100 ∷ []

-- P5 prepending d, c, b, a
abbrev typed-back : List Call
typed-back = push 100 ∷ push 99 ∷ push 98 ∷ push 97 ∷ []

appended : books append 9 [] typed ≡ abcd
unfolding book_after
appended = refl

prepended : books prepend 9 [] typed-back ≡ abcd
unfolding book_after
prepended = refl

-- extend adds its bytes in order; in prepending each in turn at the front
extended : books append 9 (97 ∷ []) (extend (98 ∷ 99 ∷ 100 ∷ []) ∷ []) ≡ abcd
unfolding book_after
extended = refl

extended-back : books prepend 9 (100 ∷ []) (extend (99 ∷ 98 ∷ 97 ∷ []) ∷ []) ≡ abcd
unfolding book_after
extended-back = refl

-- truncate below the length, at it, beyond it
first-kept : map (λ (k : ℕ). book_after append 4 abcd (truncate k)) (0 ∷ 2 ∷ 4 ∷ 5 ∷ []) ≡ [] ∷ (97 ∷ 98 ∷ []) ∷ abcd ∷ abcd ∷ []
unfolding book_after
first-kept = refl

last-kept : map (λ (k : ℕ). book_after prepend 4 abcd (truncate k)) (0 ∷ 2 ∷ 4 ∷ 5 ∷ []) ≡ [] ∷ (99 ∷ 100 ∷ []) ∷ abcd ∷ abcd ∷ []
unfolding book_after
last-kept = refl

-- a slice of 4 records: four bytes fit, a fifth is refused with the current length, an extend by no bytes is not; truncated to 2 there is room for two bytes and not
-- for three; the book stays at each refusal
four : List Call
four = extend abcd ∷ push 97 ∷ extend [] ∷ truncate 2 ∷ extend (97 ∷ 98 ∷ 99 ∷ []) ∷ push 99 ∷ truncate 7 ∷ []

four-answers : (side : Side) → answers (dictionary E) side 4 [] four ≡ Ok 4 ∷ Err (Full 4) ∷ Ok 4 ∷ Ok 2 ∷ Err (Full 2) ∷ Ok 3 ∷ Ok 3 ∷ []
unfolding four book_after book_answer
four-answers append = refl
four-answers prepend = refl

four-appended : books append 4 [] four ≡ 97 ∷ 98 ∷ 99 ∷ []
unfolding four book_after
four-appended = refl

four-prepended : books prepend 4 [] four ≡ 99 ∷ 98 ∷ 97 ∷ []
unfolding four book_after
four-prepended = refl

-- a slice without records
nothing-fits : answers (dictionary E) append 0 [] (push 97 ∷ extend [] ∷ truncate 1 ∷ token_count ∷ []) ≡ Err (Full 0) ∷ Ok 0 ∷ Ok 0 ∷ Ok 0 ∷ []
unfolding book_after book_answer E encode dictionary parts_below
nothing-fits = refl

-- 4,096 bytes fit and no more, in a slice of 5,000 records; an argument of 4,097 bytes is 9, also where 12 applies
most : map (book_refusal 5000 (replicate 4095 97)) (push 97 ∷ extend (97 ∷ 97 ∷ []) ∷ extend (replicate 4097 97) ∷ []) ≡ none ∷ some (Full 4095) ∷ some TooLong ∷ []
most = refl

most_at_once : map (book_refusal 5000 []) (extend (replicate 4096 97) ∷ extend (replicate 4097 97) ∷ []) ≡ none ∷ some TooLong ∷ []
most_at_once = refl

-- P4 and P5: the counts of the records, and token_count after each byte
records : Side → List Entry
records side = map (book_record (dictionary E) side abcd) (0 ∷ 1 ∷ 2 ∷ 3 ∷ [])

P4-records : records append
    ≡ record { byte = 97; code = 97; count = 1 } ∷ record { byte = 98; code = 257; count = 1 } ∷ record { byte = 99; code = 256; count = 2 } ∷ record { byte = 100; code = 100; count = 3 } ∷ []
unfolding records book_record E encode dictionary parts_below
P4-records = refl

P5-records : records prepend
    ≡ record { byte = 100; code = 100; count = 1 } ∷ record { byte = 99; code = 258; count = 1 } ∷ record { byte = 98; code = 256; count = 2 } ∷ record { byte = 97; code = 97; count = 3 } ∷ []
unfolding records book_record E encode dictionary parts_below
P5-records = refl

P4-counts : answers (dictionary E) append 4 [] (push 97 ∷ token_count ∷ push 98 ∷ token_count ∷ push 99 ∷ token_count ∷ push 100 ∷ token_count ∷ [])
    ≡ Ok 1 ∷ Ok 1 ∷ Ok 2 ∷ Ok 1 ∷ Ok 3 ∷ Ok 2 ∷ Ok 4 ∷ Ok 3 ∷ []
unfolding book_after book_answer E encode dictionary parts_below
P4-counts = refl

P5-counts : answers (dictionary E) prepend 4 [] (push 100 ∷ token_count ∷ push 99 ∷ token_count ∷ push 98 ∷ token_count ∷ push 97 ∷ token_count ∷ [])
    ≡ Ok 1 ∷ Ok 1 ∷ Ok 2 ∷ Ok 1 ∷ Ok 3 ∷ Ok 2 ∷ Ok 4 ∷ Ok 3 ∷ []
unfolding book_after book_answer E encode dictionary parts_below
P5-counts = refl
