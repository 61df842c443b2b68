-- What the steps of the merge encoder answer.
use Rattle.std.specs.Prelude.{◌≡◌, ◌⊎◌, List, [], ◌∷◌, ◌++◌, Bool, true, false, ℕ, zero, suc, ◌+◌, ◌-◌, ◌*◌, ◌≤◌, ◌<◌}
use Rattle.std.specs.Prelude.{length, get_or, drop, Option, None, IfSome, slice_index_or}
use Rattle.bitfield.specs.Bits.{is_set, all_set, without}
use Rattle.theory.specs.Dictionary.{Dictionary, none}
use Rattle.theory.specs.Merge.{byte_codes}
use Rattle.theory.specs.Paper.{pass, listed}
use Rattle.merge_encoder.specs.declared.joins.Joins.{Joins}
use Rattle.merge_encoder.specs.Encoding.{JoinsReady, WhenBuilt, Codes}
use Rattle.merge_encoder.specs.Live.{live, NextLive, LastLive}
use Rattle.merge_encoder.specs.Queues.{Queued}
use Rattle.merge_encoder.specs.Pushing.{Longer}
use Rattle.tables.specs.Tables.{PairTables}

-- r is a row, and the row that is the byte b alone
pub record ByteCode (P : PairTables) (n b r : ℕ) : Type 0 where
  pub below : r < n
  pub built : WhenBuilt P n (λ D. r ≡ D.code b)

-- the rows of the bytes met so far, none for the others
abbrev pub KnownBytes : PairTables → ℕ → List (Option ℕ) → Type 0
KnownBytes P n known = (length known ≡ 256) × ((b : ℕ) → IfSome (slice_index_or known b None) (ByteCode P n b))

pub record KnownCode (P : PairTables) (n b : ℕ) (known' : List (Option ℕ)) (r : ℕ) : Type 0 where
  pub code : ByteCode P n b r
  pub known : KnownBytes P n known'

-- the codes of a text's bytes
pub record ByteCodes (P : PairTables) (n : ℕ) (text codes' : List ℕ) : Type 0 where
  pub codes : Codes (length text) codes' n
  pub size : length codes' ≡ length text
  pub built : WhenBuilt P n (λ D. codes' ≡ byte_codes D text)

-- k is the row of D that has x and y as its parts, or none where there is no such row
pub record JoinOf (D : Dictionary) (n x y k : ℕ) : Type 0 where
  pub is : (k ≡ none → ⊥) → listed D k x y ≡ true
  pub only : (r : ℕ) → r < n → listed D r x y ≡ true → k ≡ r

-- k is the key of a code x where the next code is y
pub record JoinKey (P : PairTables) (n x y k : ℕ) : Type 0 where
  pub bound : (k ≡ none) ⊎ (k < n)
  pub built : WhenBuilt P n (λ D. JoinOf D n x y k)

module _ (Key : ℕ → ℕ → ℕ → Type 0) where
  -- k is the key of a live place whose code is x, the codes after it being S: none where there are none
  abbrev pub NextKey : ℕ → List ℕ → ℕ → Type 0
  NextKey x [] k = k ≡ none
  NextKey x (y ∷ S) k = Key x y k

  -- k is the key of a place: none where the place is not live
  abbrev pub KeyIs : Bool → ℕ → List ℕ → ℕ → Type 0
  KeyIs true x S k = NextKey x S k
  KeyIs false x S k = k ≡ none

-- codes may be read
pub record CodesReady (n len : ℕ) (work : List ℕ) : Type 0 where
  pub few : len ≤ 4096
  pub room : len ≤ length work
  pub codes : Codes len work n

-- what a key found anew needs: a place, and the next live one or the end
pub record RenewReady (P : PairTables) (n len : ℕ) (work : List ℕ) (Q : Joins) (at next : ℕ) : Type 0 where
  pub tables : JoinsReady P n
  pub codes_ready : CodesReady n len work
  pub room : Q.count < 12289
  pub at_below : at < len
  pub next_below : next ≤ len

-- one key is found anew, and its place is in the queue of its row
pub record Renewed (P : PairTables) (n len : ℕ) (work : List ℕ) (Q : Joins) (at next : ℕ) (Q' : Joins)
    : Type 0 where
  pub last : next ≡ len → get_or Q'.keys at 0 ≡ none
  pub here : next < len → JoinKey P n (get_or work at 0) (get_or work next 0) (get_or Q'.keys at 0)
  pub others : (i : ℕ) → (i ≡ at → ⊥) → get_or Q'.keys i 0 ≡ get_or Q.keys i 0
  pub same_live : Q'.live ≡ Q.live
  pub longer : Longer Q Q'
  pub few : Q'.count ≤ Q.count + 1
  pub fresh : (get_or Q'.keys at 0 ≡ none → ⊥) → Queued Q'.pool (get_or Q'.heads (get_or Q'.keys at 0) 0) at

-- the codes at the live places below len, and the keys of all places
pub record Keyed (P : PairTables) (n len : ℕ) (words work keys : List ℕ) : Type 0 where
  pub codes_ready : CodesReady n len work
  pub key : (i : ℕ) → i < 4096
      → KeyIs (JoinKey P n) (is_set words i) (get_or work i 0) (live (is_set words) work (len - suc i) (suc i))
      (get_or keys i 0)

-- and the queues, with room for two entries at each join, over tables whose parts may be read
pub record State (P : PairTables) (n len : ℕ) (S : Joins) (work : List ℕ) : Type 0 where
  pub tables : JoinsReady P n
  pub keyed : Keyed P n len S.live.words work S.keys
  pub entries : S.count + 2 * length (live (is_set S.live.words) work len 0) ≤ 3 * len + 1

-- no key is below row, and each place that has a row as its key is in the queue of that row
pub record Waiting (Q : Joins) (row : ℕ) : Type 0 where
  pub least : (i : ℕ) → i < 4096 → row ≤ get_or Q.keys i 0
  pub queued : (i : ℕ) → i < 4096 → (get_or Q.keys i 0 ≡ none → ⊥)
      → Queued Q.pool (get_or Q.heads (get_or Q.keys i 0) 0) i

-- the keys of codes that are all live
pub record FirstKeys (P : PairTables) (n len : ℕ) (work : List ℕ) (Q : Joins) : Type 0 where
  pub state : State P n len Q work
  pub waiting : Waiting Q 0
  pub all_live : is_set Q.live.words ≡ all_set

-- what the keys of codes need: empty queues, no keys, and live places
pub record FillReady (P : PairTables) (n len : ℕ) (work : List ℕ) (Q : Joins) : Type 0 where
  pub tables : JoinsReady P n
  pub codes_ready : CodesReady n len work
  pub empty : Q.count ≡ 1
  pub all_live : is_set Q.live.words ≡ all_set
  pub no_keys : (i : ℕ) → i < 4096 → get_or Q.keys i 0 ≡ none

-- the live place before a place has another key than row, or there is none
abbrev pub First : List ℕ → ℕ → ℕ → ℕ → Type 0
First keys last at row = last < at → get_or keys last 0 ≡ row → ⊥

-- whether the live place before a place has the key row
pub record Later (keys : List ℕ) (last at row : ℕ) (b : Bool) : Type 0 where
  pub yes : b ≡ true → (last < at) × (get_or keys last 0 ≡ row)
  pub no : b ≡ false → First keys last at row

-- the place at has the key row and joins first; the live places around it
pub record Around (bits : ℕ → Bool) (keys : List ℕ) (n len row last at next after : ℕ) : Type 0 where
  pub below : row < n
  pub at_below : at < 4096
  pub here : get_or keys at 0 ≡ row
  pub first : First keys last at row
  pub last_is : LastLive bits at last
  pub next_is : NextLive bits at len next
  pub after_is : NextLive bits next len after

-- the code at the place at and the one after it are made one
pub record Turned (P : PairTables) (n len : ℕ) (S : Joins) (work : List ℕ) (row last at next : ℕ)
    (S' : Joins) (work' : List ℕ) : Type 0 where
  pub state : State P n len S' work'
  pub work_length : length work' ≡ length work
  pub less : suc (length (live (is_set S'.live.words) work' len 0)) ≡ length (live (is_set S.live.words) work len 0)
  pub longer : Longer S S'
  pub cleared : is_set S'.live.words ≡ without (is_set S.live.words) next
  pub gone : get_or S'.keys next 0 ≡ none
  pub others : (i : ℕ) → (i ≡ at → ⊥) → (i ≡ next → ⊥) → (last < at → i ≡ last → ⊥)
      → get_or S'.keys i 0 ≡ get_or S.keys i 0
  pub fresh_at : let Q = S' in let key = get_or Q.keys at 0 in
      (key ≡ none → ⊥) → Queued Q.pool (get_or Q.heads key 0) at
  pub fresh_last : let Q = S' in let key = get_or Q.keys last 0 in
      last < at → (key ≡ none → ⊥) → Queued Q.pool (get_or Q.heads key 0) last
  pub higher_at : WhenBuilt P n (λ D. row < get_or S'.keys at 0)
  pub higher_last : last < at → WhenBuilt P n (λ D. row < get_or S'.keys last 0)
  pub same : WhenBuilt P n (λ D. pass row (listed D row) (live (is_set S'.live.words) work' len 0)
      ≡ pass row (listed D row) (live (is_set S.live.words) work len 0))

-- the live place before a place has the key row
pub record Behind (bits : ℕ → Bool) (keys : List ℕ) (row i : ℕ) : Type 0 where
  pub place : ℕ
  pub before : place < i
  pub clear : (p : ℕ) → place < p → p < i → bits p ≡ false
  pub key : get_or keys place 0 ≡ row

-- while the joins to row are made: no key is below row, places with a higher one are queued, and a place with the key
-- row is the place at, or in the queue from an entry on, or the live place before it has the key row too
pub record During (bits : ℕ → Bool) (Q : Joins) (row entry at : ℕ) : Type 0 where
  pub least : (i : ℕ) → i < 4096 → row ≤ get_or Q.keys i 0
  pub queued : (i : ℕ) → i < 4096 → row < get_or Q.keys i 0 → (get_or Q.keys i 0 ≡ none → ⊥)
      → Queued Q.pool (get_or Q.heads (get_or Q.keys i 0) 0) i
  pub due : (i : ℕ) → i < 4096 → get_or Q.keys i 0 ≡ row
      → (i ≡ at) ⊎ (Queued Q.pool entry i ⊎ Behind bits Q.keys row i)

-- joins to row were made from the place at on, where there are some. 4,096 is no place
pub record Ran (P : PairTables) (n len : ℕ) (S : Joins) (work : List ℕ) (row at : ℕ) (S' : Joins) (work' : List ℕ)
    : Type 0 where
  pub state : State P n len S' work'
  pub work_length : length work' ≡ length work
  pub least : S.count ≤ S'.count
  pub during : WhenBuilt P n (λ D. (entry : ℕ) → entry < S.count
      → During (is_set S.live.words) S row entry at
      → During (is_set S'.live.words) S' row entry 4096)
  pub same : WhenBuilt P n (λ D. pass row (listed D row) (live (is_set S'.live.words) work' len 0)
      ≡ pass row (listed D row) (live (is_set S.live.words) work len 0))

-- all joins to row were made
pub record RowJoined (P : PairTables) (n len : ℕ) (S : Joins) (work : List ℕ) (row : ℕ) (S' : Joins) (work' : List ℕ)
    : Type 0 where
  pub state : State P n len S' work'
  pub work_length : length work' ≡ length work
  pub waiting : WhenBuilt P n (λ D. Waiting S row → Waiting S' (suc row))
  pub is : WhenBuilt P n (λ D. Waiting S row → live (is_set S'.live.words) work' len 0
      ≡ pass row (listed D row) (live (is_set S.live.words) work len 0))

-- the codes after the passes of the rows below p
abbrev pub passed_below : Dictionary → ℕ → List ℕ → List ℕ
passed_below D zero S = S
passed_below D (suc p) S = pass p (listed D p) (passed_below D p S)

-- the codes at the live places are what the passes of all rows make of those that were there before
pub record Merged (P : PairTables) (n len : ℕ) (S : Joins) (work : List ℕ) (S' : Joins) (work' : List ℕ) : Type 0 where
  pub codes : Codes len work' n
  pub work_length : length work' ≡ length work
  pub built : WhenBuilt P n (λ D. live (is_set S'.live.words) work' len 0
      ≡ passed_below D n (live (is_set S.live.words) work len 0))

-- the codes at the live places stand at the front of a buffer, the rest is as before
pub record Gathered (words work : List ℕ) (len : ℕ) (out out' : List ℕ) (r : ℕ) : Type 0 where
  pub count : r ≡ length (live (is_set words) work len 0)
  pub is : out' ≡ live (is_set words) work len 0 ++ drop r out
