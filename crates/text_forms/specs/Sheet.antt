-- The phrases that the lines of a sheet say, and the phrase file of them.
use Rattle.std.specs.Prelude.{◌≡◌, ℕ, ◌+◌, ◌-◌, ◌≤◌, cond, List, [], ◌∷◌, ◌++◌, length, take, drop, ◌==◌, slice_index}
use Rattle.std.specs.Prelude.{Result, IfOk}
use Rattle.words.specs.Parts.{count_before}
use Rattle.text_forms.specs.declared.escapes.Reading.TheVariants.{Plain}
use Rattle.text_forms.specs.declared.sheet.LineError.{LineError}
use Rattle.text_forms.specs.declared.sheet.Made.{Made}
use Rattle.text_forms.specs.declared.sheet.SheetError.{SheetError}
use Rattle.text_forms.specs.Escapes.{meaning, whole}

-- a line without the CR at its end
abbrev pub without_return : List ℕ → List ℕ
without_return s = cond (slice_index s (length s - 1) == 13) (take (length s - 1) s) s

-- the escaped bytes of a line: what stands before the first tab
abbrev pub escaped : List ℕ → List ℕ
escaped line = take (count_before 9 (without_return line)) (without_return line)

-- the first line of a text, and those after it
abbrev pub first_line : List ℕ → List ℕ
first_line s = take (count_before 10 s) s

abbrev pub other_lines : List ℕ → List ℕ
other_lines s = drop (count_before 10 s + 1) s

-- a line says a phrase, of 1 to 64 bytes
pub record Says (line w : List ℕ) : Type 0 where
  pub means : meaning 64 Plain [] (escaped line) ≡ whole w
  pub some : 1 ≤ length w
  pub most : length w ≤ 64

-- the lines of a sheet say these phrases
unfoldable pub AllSay : List ℕ → List (List ℕ) → Type 0
AllSay s [] = length s ≡ 0
AllSay s (w ∷ ws) = (1 ≤ length s) × Says (first_line s) w × AllSay (other_lines s) ws

-- a record: the mark, a length byte and the phrase's bytes
unfoldable pub record_of : List ℕ → List ℕ
record_of w = 199 ∷ 81 ∷ length w ∷ w

-- a file: the records of its phrases
unfoldable pub file_of : List (List ℕ) → List ℕ
file_of [] = []
file_of (w ∷ ws) = record_of w ++ file_of ws

-- the record of a phrase was written at a place, and ends where the file now ends
pub record Recorded (file : List ℕ) (at : ℕ) (w file' : List ℕ) (end : ℕ) : Type 0 where
  pub inside : end ≤ length file'
  pub written : take end file' ≡ take at file ++ record_of w

-- the record of the phrase that a line says
pub record LineRecorded (line file : List ℕ) (at : ℕ) (file' : List ℕ) (end : ℕ) : Type 0 where
  pub phrase : List ℕ
  pub says : Says line phrase
  pub recorded : Recorded file at phrase file' end

-- what adding a phrase, and a line, answers and writes
abbrev pub PhraseAdded : (w file : List ℕ) (at : ℕ) (file' : List ℕ) (r : Result ℕ LineError) → Type 0
PhraseAdded w file at file' r = length w ≤ 64 → IfOk r (Recorded file at w file')

abbrev pub LineAdded : (line file : List ℕ) (at : ℕ) (file' : List ℕ) (r : Result ℕ LineError) → Type 0
LineAdded line file at file' r = IfOk r (LineRecorded line file at file')

-- the front of a buffer is the file of the phrases that a sheet says, so many
pub record Filled (sheet file' : List ℕ) (rows size : ℕ) : Type 0 where
  pub phrases : List (List ℕ)
  pub count : length phrases ≡ rows
  pub said : AllSay sheet phrases
  pub inside : size ≤ length file'
  pub written : take size file' ≡ file_of phrases

-- what `make_file` answers and writes
pub record FileMade (sheet file file' : List ℕ) (r : Result Made SheetError) : Type 0 where
  pub same : length file' ≡ length file
  pub made : IfOk r (λ m. Filled sheet file' m.rows m.size)
