-- Interval tables of a text: what preparation leaves in them, and whether they are in form.
use Rattle.std.specs.Prelude.{◌≡◌, List, Bool, ◌&&◌, ℕ, suc, ◌+◌, ◌≤◌, ◌<◌, length, get_or, take, ltb, leb}
use Rattle.theory.specs.Table.{last_code}
use Rattle.theory.specs.Tree.{tree_number, tree_end, depth}
use Rattle.tables.specs.InForm.{all_below}
use Rattle.built_tables.specs.Built.{dictionary_of}

-- "last code, tree number, tree end and depth from a text": the last code of each prefix but the empty one, the
-- others of each prefix
pub record Prepared (file text last_codes numbers ends depths : List ℕ) : Type 0 where
  pub last_codes_are : (i : ℕ) → i < length text → get_or last_codes i 0 ≡ last_code (dictionary_of file) (take (suc i) text)
  pub numbers_are : (i : ℕ) → i ≤ length text → get_or numbers i 0 ≡ tree_number (dictionary_of file) text i
  pub ends_are : (i : ℕ) → i ≤ length text → get_or ends i 0 ≡ tree_end (dictionary_of file) text i
  pub depths_are : (i : ℕ) → i ≤ length text → get_or depths i 0 ≡ depth (dictionary_of file) text i

-- a table of last codes has one entry per byte, and these are below n
unfoldable pub codes_in_form : ℕ → List ℕ → List ℕ → Bool
codes_in_form n text last_codes =
    leb (length text) (length last_codes) && all_below (length text) (λ i. ltb (get_or last_codes i 0) n)

-- a tree table has one entry more, and none of these exceeds the text's length + 1
unfoldable pub tree_in_form : List ℕ → List ℕ → Bool
tree_in_form text table =
    leb (length text + 1) (length table) && all_below (length text + 1) (λ i. leb (get_or table i 0) (length text + 1))

-- interval tables in form: as long as preparation needs, and among the entries that it fills each last code is below
-- n and no other entry exceeds the text's length + 1
unfoldable pub interval_in_form : ℕ → List ℕ → List ℕ → List ℕ → List ℕ → List ℕ → Bool
interval_in_form n text last_codes numbers ends depths =
    codes_in_form n text last_codes && (tree_in_form text numbers && (tree_in_form text ends && tree_in_form text depths))
