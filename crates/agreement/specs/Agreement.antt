-- What the sender and the counters say of one text, and what they leave.
use Rattle.std.specs.Prelude.{◌≡◌, List, ◌++◌, cond, ◌&&◌, ℕ, ◌≤◌, ◌<◌, min, length, get_or, drop, eqb}
use Rattle.std.specs.Prelude.{Option as Maybe, Some, None, Result, Ok, Err}
use Rattle.std.proofs.Math.Option.{Option, none, some}
use Rattle.causes.specs.declared.Cause.{Cause}
use Rattle.theory.specs.Merge.{encode}
use Rattle.theory.specs.Typing.{append, count_at}
use Rattle.tables.specs.Tables.{Tables}
use Rattle.byte_pair_encoding.specs.Refusals.{send_refusal}
use Rattle.built_tables.specs.Built.{dictionary_of, Built}
use Rattle.byte_pair_encoding.specs.Sending.{Written}
use Rattle.typing_columns.specs.Columns.{last_count}
use Rattle.typing.specs.Text.{TextTyped}

-- a text of at most 4,096 bytes, and buffers with one number per byte
pub record Room (text out work counts : List ℕ) : Type 0 where
  pub short : length text ≤ 4096
  pub out_room : length text ≤ length out
  pub work_room : length text ≤ length work
  pub counts_room : length text ≤ length counts

-- what the comparison answers: the number of codes that all of them have, none where they differ, or a refusal
abbrev pub Agreement : Type 0
Agreement = Result (Maybe ℕ) Cause

-- the answer: the refusal if there is one, else whether the number sent is the number counted and the count after the
-- last byte typed
abbrev pub agreement_of : Option Cause → ℕ → ℕ → ℕ → Agreement
agreement_of none sent counted last = cond (eqb sent counted && eqb sent last) (Ok (Some sent)) (Ok None)
agreement_of (some cause) sent counted last = Err cause

-- the text typed byte by byte, and the count after the last byte typed
pub record TypedCount (T : Tables) (text counts counts' : List ℕ) (r : ℕ) : Type 0 where
  pub typed : ℕ
  pub is : r ≡ last_count counts' typed
  pub text_typed : TextTyped T append text counts typed counts'

-- what holds without refusal on any tables in form: output and work buffer are as the sender says; no more is counted
-- than the text has bytes, no more bytes are typed than it has and counts have room for, and counts beyond them are
-- unchanged; all counts are where sender and counter differ, for then nothing is typed. Free are the first numbers of
-- the work buffer (scratch) and, where no build left the tables, the codes, the three numbers, how many bytes are
-- typed and their counts
pub record Compared (file text out work counts out' work' counts' : List ℕ) (sent counted typed : ℕ) : Type 0 where
  pub written : Written file text out work out' work' sent
  pub few_counted : counted ≤ length text
  pub few_typed : typed ≤ min (length text) (length counts)
  pub counts_length : length counts' ≡ length counts
  pub counts_beyond : drop typed counts' ≡ drop typed counts
  pub counts_kept : (sent ≡ counted → ⊥) → counts' ≡ counts

-- what holds without refusal over tables that a build left: sender and counter have the merge procedure's number of
-- codes, its codes stand at the front of the output, all bytes are typed for which counts have room, and the counts
-- are those of the merge procedure
pub record AsMerged (file text out counts out' counts' : List ℕ) (sent counted typed : ℕ) : Type 0 where
  pub sent_is : sent ≡ length (encode (dictionary_of file) text)
  pub counted_is : counted ≡ length (encode (dictionary_of file) text)
  pub codes : out' ≡ encode (dictionary_of file) text ++ drop sent out
  pub typed_is : typed ≡ min (length text) (length counts)
  pub counts_are : (i : ℕ) → i < typed → get_or counts' i 0 ≡ count_at (dictionary_of file) append text i

-- the sender against the counters. The refusal is the sender's (9, 7, 8) and leaves the three buffers as they were;
-- the counter asks for less, and typing ends where counts have no more room. Else the answer compares the three
-- numbers, and over tables that a build left, with room for all counts, they agree: they are the merge procedure's
pub record Agrees (T : Tables) (text out work counts out' work' counts' : List ℕ) (r : Agreement) : Type 0 where
  pub sent : ℕ
  pub counted : ℕ
  pub typed : ℕ
  pub answer : r ≡ agreement_of (send_refusal T text out work) sent counted (last_count counts' typed)
  pub refused : (cause : Cause) → send_refusal T text out work ≡ some cause
      → (out' ≡ out) × (work' ≡ work) × (counts' ≡ counts)
  pub compared : send_refusal T text out work ≡ none
      → Compared T.file text out work counts out' work' counts' sent counted typed
  pub merged : (n : ℕ) → Built T n → send_refusal T text out work ≡ none
      → AsMerged T.file text out counts out' counts' sent counted typed
  pub built : (n : ℕ) → Built T n → Room text out work counts
      → r ≡ Ok (Some (length (encode (dictionary_of T.file) text)))
