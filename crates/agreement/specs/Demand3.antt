-- Demand 3, whole, in the words of the mission. Each premise is what the contract of a function ensures: a reader goes
-- from it to that function in one step.
use Rattle.std.specs.Prelude.{◌≡◌, List, [], ℕ, ◌-◌, ◌<◌, length, take, drop, Bool, Result, Ok}
use Rattle.causes.specs.declared.Cause.{Cause}
use Rattle.theory.specs.Dictionary.{Dictionary, Octets}
use Rattle.theory.specs.Merge.{encode}
use Rattle.theory.specs.Paper.{paper_codes}
use Rattle.theory.specs.PairCheck.{passes}
use Rattle.theory.specs.Typing.{Side}
use Rattle.theory.specs.Demands.{ExactlyOne}
use Rattle.tables.specs.Tables.{Tables}
use Rattle.built_tables.specs.Built.{dictionary_of}
use Rattle.byte_pair_encoding.specs.Pair.{PairChecked}
use Rattle.byte_pair_encoding.specs.Sending.{Sends}
use Rattle.byte_pair_encoding.specs.Counting.{Counts}
use Rattle.typing_book.specs.Run.{Lent, Event, OctetCalls, Run, AllAsTheBook}
use Rattle.interval_prepare.specs.Answers.{Prepares}
use Rattle.interval_count.specs.Answers as Interval

-- the tables T as `from_dictionary` left them when it accepted their file with n rows
module _ (T : Tables) (n : ℕ) where
  abbrev D : Dictionary
  D = dictionary_of T.file

  pub record Demand3 : Type 0 where
    -- 1. "of all code lists that spell it exactly one has all neighbours passing the pair check, and it is the merge
    -- procedure's"
    pub exactly_one : (text : List ℕ) → Octets text → ExactlyOne D text (encode D text)
    -- that pair check, over all rows, is the one that `is_valid_token_pair` answers
    pub pairs : (token1 token2 : ℕ) (r : Result Bool Cause) → PairChecked T token1 token2 r → token1 < n → token2 < n
        → r ≡ Ok (passes D D.count token1 token2)
    pub all_rows_are : D.count ≡ n
    -- "The paper merges listed pairs, the Rust any neighbours": the same codes
    pub paper : (text : List ℕ) → paper_codes D text ≡ encode D text
    -- 2. "sending gives that list", unless refused. `encode_via_backtracking`, `encode_via_table` and
    -- `encode_via_bitfield` ensure `Sends encode`
    pub sending : (text out work out' work' : List ℕ) (r : Result ℕ Cause) → Sends encode T text out work out' work' r
        → (count : ℕ) → r ≡ Ok count → (count ≡ length (encode D text)) × (take count out' ≡ encode D text)
    -- and counting, unless refused, gives its length. `count` ensures `Counts`
    pub counting : (text work work' : List ℕ) (r : Result ℕ Cause) → Counts T text work work' r
        → (count : ℕ) → r ≡ Ok count → count ≡ length (encode D text)
    -- 3. "for every list of typing calls the refusals, counts and records are those of document 01's typing book":
    -- appending or prepending, from length 0 over one slice of any size and content. `Run` holds, call by call, what
    -- `typing::push`, `extend`, `truncate` and `token_count` ensure
    pub typing : (side : Side) (m : Lent) → m.len ≡ 0 → (events : List Event) → OctetCalls events
        → Run T side m events → AllAsTheBook T side [] (length m.states) m events
    -- 4. "every interval count is the merge procedure's for its piece". `interval_prepare::prepare` ensures `Prepares`,
    -- `interval_count::IntervalTables::count` ensures `Interval.Counts`
    pub intervals : (text codes numbers ends depths work codes' numbers' ends' depths' work' : List ℕ) (m : ℕ)
        → Prepares T text codes numbers ends depths work codes' numbers' ends' depths' work' (Ok m)
        → (from to : ℕ) (scratch scratch' : List ℕ) (r : Result ℕ Cause)
        → Interval.Counts T text codes' numbers' ends' depths' from to scratch scratch' r
        → (count : ℕ) → r ≡ Ok count → count ≡ length (encode D (take (to - from) (drop from text)))
