-- The typing book of document 01: a text, empty at first, that sees the arguments of the calls and the slice's size,
-- nothing else.
use Rattle.std.proofs.Math.Option.{Option, none, some}
use Rattle.std.specs.Prelude.{List, [], ◌∷◌, ◌++◌, reverse, ℕ, suc, ◌-◌, length, get_or, take, drop, Result}
use Rattle.theory.specs.Dictionary.{Dictionary}
use Rattle.theory.specs.Merge.{encode}
use Rattle.theory.specs.Typing.{Side, append, prepend, end_code, Entry}
use Rattle.causes.specs.declared.Cause.{Cause}
use Rattle.causes.specs.declared.Cause.TheVariants.{TooLong, Full}
use Rattle.causes.specs.Order.{other_order, when, over, first_of}
use Rattle.causes.specs.Call.{saying}
use Rattle.typing_columns.specs.Refusals.{full}

-- the calls of a list
pub data Call : Type 0 where
  push : ℕ → Call
  extend : List ℕ → Call
  truncate : ℕ → Call
  token_count : Call

-- appending adds bytes at the end, in order; prepending adds each byte in turn at the front
abbrev pub added : Side → List ℕ → List ℕ → List ℕ
added append book bytes = book ++ bytes
added prepend book bytes = reverse bytes ++ book

-- appending keeps so many of the first bytes, prepending so many of the last, or all if there are fewer
abbrev pub kept : Side → ℕ → List ℕ → List ℕ
kept append k book = take k book
kept prepend k book = drop (length book - k) book

-- where 9 (extend's argument over 4,096 bytes) or 12 applies, the book's length being the current one, the call is
-- refused so
abbrev pub book_refusal : ℕ → List ℕ → Call → Option Cause
book_refusal size book (push byte) =
    first_of other_order (when (full (length book) size (byte ∷ [])) (Full (length book)) ∷ [])
book_refusal size book (extend bytes) =
    first_of other_order (when (over bytes) TooLong ∷ when (full (length book) size bytes) (Full (length book)) ∷ [])
book_refusal size book (truncate k) = none
book_refusal size book token_count = none

-- the book after a call that is not refused
abbrev pub turned : Side → List ℕ → Call → List ℕ
turned side book (push byte) = added side book (byte ∷ [])
turned side book (extend bytes) = added side book bytes
turned side book (truncate k) = kept side k book
turned side book token_count = book

-- the book after a call; it stays where the call is refused
abbrev pub unless : Option Cause → List ℕ → List ℕ → List ℕ
unless none book book' = book'
unless (some cause) book book' = book

unfoldable pub book_after : Side → ℕ → List ℕ → Call → List ℕ
book_after side size book call = unless (book_refusal size book call) book (turned side book call)

-- the number in an answer that is no refusal: the book's new length, or the number of codes that the merge procedure
-- gives for the book
abbrev pub book_number : Dictionary → Side → List ℕ → Call → ℕ
book_number D side book (push byte) = length (turned side book (push byte))
book_number D side book (extend bytes) = length (turned side book (extend bytes))
book_number D side book (truncate k) = length (turned side book (truncate k))
book_number D side book token_count = length (encode D book)

unfoldable pub book_answer : Dictionary → Side → ℕ → List ℕ → Call → Result ℕ Cause
book_answer D side size book call = saying (book_refusal size book call) (book_number D side book call)

-- byte i, in prepending counted from the back
abbrev pub byte_at : Side → List ℕ → ℕ → ℕ
byte_at append book i = get_or book i 0
byte_at prepend book i = get_or book (length book - suc i) 0

-- record i: byte i, and the last code and the number of codes of the merge procedure for the first i + 1 bytes; in
-- prepending the first code and the number for the last i + 1 bytes
unfoldable pub book_record : Dictionary → Side → List ℕ → ℕ → Entry
book_record D side book i =
    record {
      byte = byte_at side book i;
      code = end_code side (encode D (kept side (suc i) book));
      count = length
          (encode D (kept side (suc i) book));
    }
