-- A list of typing calls over one slice and one head, each with what its contract ensures, and what the typing book
-- says of the list.
use Rattle.std.specs.Prelude.{◌≡◌, List, [], ◌∷◌, ℕ, ◌<◌, length, get_or, drop, Result}
use Rattle.theory.specs.Dictionary.{Octets}
use Rattle.theory.specs.Typing.{Side}
use Rattle.tables.specs.Tables.{Tables}
use Rattle.causes.specs.declared.Cause.{Cause}
use Rattle.built_tables.specs.Built.{dictionary_of}
use Rattle.typing.specs.declared.State.{State}
use Rattle.typing.specs.Records.{no_state, entry_of}
use Rattle.typing.specs.Calls.{Extended, TokenCounted, Truncated}
use Rattle.typing_book.specs.Book.{Call, push, extend, truncate, token_count, book_after, book_answer, book_record}

-- the head's length and the slice of records
pub record Lent : Type 0 where
  pub len : ℕ
  pub states : List State

-- a call of a list: its arguments, its answer, and what it left
pub record Event : Type 0 where
  pub call : Call
  pub answer : Result ℕ Cause
  pub after : Lent

-- the bytes that a call adds are octets
abbrev pub OctetCall : Call → Type 0
OctetCall (push byte) = Octets (byte ∷ [])
OctetCall (extend bytes) = Octets bytes
OctetCall (truncate k) = Octets []
OctetCall token_count = Octets []

abbrev pub OctetCalls : List Event → Type 0
OctetCalls [] = Octets []
OctetCalls (e ∷ es) = OctetCall e.call × OctetCalls es

module _ (T : Tables) (side : Side) where
  open T use {file}

  -- what the call's contract ensures
  abbrev pub Ensured : Call → Lent → Result ℕ Cause → Lent → Type 0
  Ensured (push byte) m r m' = Extended T side m.len m.states (byte ∷ []) r m'.len m'.states
  Ensured (extend bytes) m r m' = Extended T side m.len m.states bytes r m'.len m'.states
  Ensured (truncate k) m r m' = Truncated m.len (length m.states) k r m'.len × (m'.states ≡ m.states)
  Ensured token_count m r m' = TokenCounted T side m.len m.states r × (m' ≡ m)

  -- each call, after a refused one too, gets the slice and the head as the call before left them. Every list of calls
  -- has a run: a function that is proved ends and meets its contract on every argument, so that each call has an answer
  -- and leaves something, and the next one takes it up. That truncate and `token_count` leave the slice as it was is no
  -- field of their contracts: it is lent to them by `&`, through which nothing is written
  abbrev pub Run : Lent → List Event → Type 0
  Run m [] = m ≡ m
  Run m (e ∷ es) = Ensured e.call m e.answer e.after × Run e.after es

  -- the answer is the book's; after the call the head's length is the book's, the records below it are the book's,
  -- those from that length on are as before the call
  pub record AsTheBook (book : List ℕ) (size : ℕ) (m : Lent) (e : Event) : Type 0 where
    pub answer : e.answer ≡ book_answer (dictionary_of file) side size book e.call
    pub len : e.after.len ≡ length (book_after side size book e.call)
    pub size_kept : length e.after.states ≡ size
    pub records : (i : ℕ) → i < length (book_after side size book e.call)
        → entry_of (get_or e.after.states i no_state)
        ≡ book_record (dictionary_of file) side (book_after side size book e.call) i
    pub beyond : drop e.after.len e.after.states ≡ drop e.after.len m.states

  -- the same of each call of the list, the book going on
  abbrev pub AllAsTheBook : List ℕ → ℕ → Lent → List Event → Type 0
  AllAsTheBook book size m [] = book ≡ book
  AllAsTheBook book size m (e ∷ es) = AsTheBook book size m e × AllAsTheBook (book_after side size book e.call) size
      e.after es
