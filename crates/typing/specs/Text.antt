-- A whole text typed byte by byte.
use Rattle.std.specs.Prelude.{◌≡◌, List, true, ℕ, ◌<◌, ◌≤◌, min, length, get_or, drop}
use Rattle.theory.specs.Typing as Typing
use Rattle.tables.specs.Tables.{Tables}
use Rattle.tables.specs.InForm.{is_out, form_of}
use Rattle.built_tables.specs.Built.{dictionary_of, Built}

-- the number of bytes typed, and the count after each; over tables that a build left all are typed for which there is
-- room, and the counts are those of the merge procedure. Entries from that number on are as before. Over tables in
-- form that no build left, the number up to `at_most` and the counts are left free
pub record TextTyped (T : Tables) (side : Typing.Side) (text counts : List ℕ) (r : ℕ) (counts' : List ℕ) : Type 0 where
  pub at_most : r ≤ min (length text) (min (length counts) 4096)
  pub out_of_form : is_out (form_of T) ≡ true → r ≡ 0
  pub size_kept : length counts' ≡ length counts
  pub beyond_kept : drop r counts' ≡ drop r counts
  pub typed : (n : ℕ) → Built T n → r ≡ min (length text) (min (length counts) 4096)
  pub counted : (n : ℕ) → Built T n → (i : ℕ) → i < r
      → get_or counts' i 0 ≡ Typing.count_at (dictionary_of T.file) side text i
