-- What the demands say of code lists, as statements over the definitions alone. Their proofs stand in the other files.
use mathlib.Core.Path.{◌≡◌, sym, ap, ◌∙◌}
use mathlib.Core.Logic.{◌↔◌}
use mathlib.Core.List.{List, [], ◌∷◌, ◌++◌}
use mathlib.Core.Bool.{true, false}
use Prim.Native.Nat.{ℕ, ◌+◌, ◌-◌, ◌*◌, ◌≤◌, ◌<◌}
use lib.ListN.{length, take, drop}
use Rattle.theory.specs.Lists.{In}
use Rattle.theory.specs.Dictionary.{Dictionary, Octets}
use Rattle.theory.specs.Merge.{encode}
use Rattle.theory.specs.Paper.{paper_codes}
use Rattle.theory.specs.PairCheck.{listed_below, walk, passes, passes_joined}
use Rattle.theory.specs.Parts.{Accepted, dictionary, with_parts, parts_below, longest_at, prefixes, rows_up_to, rows_at}
use Rattle.theory.specs.Backtracking.{start, run, first_fit, finished, backtrack}
use Rattle.theory.specs.CountLimit.{counted, over, count_till_limit}
use Rattle.theory.specs.Table.{last_code, table_codes}
use Rattle.theory.specs.Shortest.{shortest}
use Rattle.theory.specs.Demands.{ExactlyOne, Fewest, Decoded}
use mathlib.Core.Option as Option
use Rattle.theory.specs.Typing.{Side, in_order, end_code, Ends, in_form, TrueAt}
use Rattle.theory.specs.Tree.{above, parent_of, tree_number, tree_end, depth, interval_count}
use Rattle.theory.proofs.PairCheck.{Lawful}
use Rattle.theory.proofs.Merge.{merge_is_stage}
use Rattle.theory.proofs.Neighbours.{only_these}
use Rattle.theory.proofs.Encode.{encode-spells, encode-passes, encode-only, encode-row}
use Rattle.theory.proofs.RowsAt.{rows-chain, rows-every, different}
use Rattle.theory.proofs.Longest.{rows-front}
use Rattle.theory.proofs.Accepted.{lawful, known-text, check-before}
use Rattle.theory.proofs.Readings.{readings_agree}
use Rattle.theory.proofs.Backtracking.{backtrack-is, never-empty, run-finished}
use Rattle.theory.proofs.CountLimit.{final-over, over-only, counted_is}
use Rattle.theory.proofs.Sides.{end-code, one_end}
use Rattle.theory.proofs.Typing.{forms_true, trues_form}
use Rattle.theory.proofs.Table.{table_codes-encode}
use Rattle.theory.proofs.Shortest.{shortest-rows, shortest-spells, shortest-least, shortest-ties}
use Rattle.theory.proofs.Decoding.{decoded}
use Rattle.theory.proofs.Interval.{above↔numbers, interval_count_lem}

-- rows that build accepts, and a text of octets
module _ (rows : List (List ℕ)) (A : Accepted rows) where
  abbrev D : Dictionary
  D = dictionary rows

  L : Lawful D
  L = lawful rows A

  -- 1. Demand 3, first sentence: exactly one list has all neighbours passing, and it is the merge procedure's
  pub demand_3_exactly_one : (t : List ℕ) → Octets t → ExactlyOne D t (encode D t)
  demand_3_exactly_one t o = record {
    spells = encode-spells D L t;
    all_pass = encode-passes D L t (known-text rows A t o);
    only = λ M p e. sym (encode-only D L M p) ∙ ap (encode D) e;
  }

  -- 2. Demand 2: the paper's passes with listed pairs give what the merge procedure gives
  pub demand_2_paper : (t : List ℕ) → paper_codes D t ≡ encode D t
  unfolding paper_codes
  demand_2_paper t = sym (merge_is_stage D L t)

  -- 3. Each row encodes to itself
  pub row_encodes_to_itself : (c : ℕ) → c < D.count → encode D (D.bytes c) ≡ c ∷ []
  row_encodes_to_itself c h = encode-row D L c h

  -- two rows below a longer one that join to it and pass over the rows before it are its parts, so the order of trying does not matter
  pub parts_are_the_only_ones : (w u v : ℕ) → D.long w ≡ true → u < w → v < w → D.bytes u ++ D.bytes v ≡ D.bytes w → passes D w u v ≡ true
      → (u ≡ D.left w) × (v ≡ D.right w)
  parts_are_the_only_ones = only_these D L

  -- the check over the rows before a row sees only those
  pub check_sees_rows_before : (w k u v m : ℕ) → w ≤ length rows → u < w → v < w → m ≤ w
      → walk (with_parts rows (parts_below rows w)) (listed_below (with_parts rows (parts_below rows w))) k u v m ≡ walk D (listed_below D) k u v m
  check_sees_rows_before = check-before rows A

  -- "no join across the seam": both readings give the same check, over all rows and over the rows before a row
  pub both_readings_agree : (q u v : ℕ) → q ≤ D.count → u < q → v < q → passes_joined D q u v ≡ passes D q u v
  both_readings_agree = readings_agree D L

  -- 4. Demand 2: backtracking by document 01's steps gives that list, it is finished after 2 m steps, and no step takes back from an empty stack
  pub demand_2_backtracking : (t : List ℕ) → Octets t → backtrack D t ≡ encode D t
  demand_2_backtracking t o = backtrack-is D L t (known-text rows A t o)

  pub backtracking_ends : (t : List ℕ) → Octets t → (k : ℕ) → 2 * length t ≤ k → finished D t (run D t k (start D t)) ≡ true
  backtracking_ends t o = run-finished D L t (known-text rows A t o)

  pub nothing_taken_from_an_empty_stack : (t : List ℕ) → Octets t → (j : ℕ) → finished D t (run D t j (start D t)) ≡ false
      → first_fit D (run D t j (start D t)).stack (run D t j (start D t)).dead (run D t j (start D t)).next ≡ Option.none
      → (run D t j (start D t)).stack ≡ [] → ⊥
  nothing_taken_from_an_empty_stack t o = never-empty D L t (known-text rows A t o)

  -- the count with a limit: a count that is given is the number of codes, and "over" is given exactly if that number exceeds the limit
  pub limited_count_is : (t : List ℕ) (limit n : ℕ) → count_till_limit D t limit ≡ counted n → (n ≡ length (encode D t)) × (n ≤ limit)
  unfolding count_till_limit
  limited_count_is t limit = counted_is limit (length (encode D t))

  pub limited_count_over : (t : List ℕ) (limit : ℕ) → (count_till_limit D t limit ≡ over) ↔ (limit < length (encode D t))
  unfolding count_till_limit
  limited_count_over t limit = (over-only limit (length (encode D t)), final-over limit (length (encode D t)))

  -- 5. The prefix chain from the longest row at a place lists exactly the rows that begin there, longest first
  pub chain_starts_with_the_longest : (t : List ℕ) → Octets t → 0 < length t → rows_at D t ≡ longest_at D t ∷ prefixes D (longest_at D t)
  chain_starts_with_the_longest t o = rows-front D L t (known-text rows A t o)

  pub chain_goes_on_with_prefixes : (l : ℕ) (t : List ℕ) (c : ℕ) (cs : List ℕ) → l ≤ length t → rows_up_to D l t ≡ c ∷ cs → cs ≡ prefixes D c
  chain_goes_on_with_prefixes = rows-chain D

  pub chain_has_every_row : (t : List ℕ) (c : ℕ) (r : List ℕ) → c < D.count → t ≡ D.bytes c ++ r → length (D.bytes c) ≤ length t → In c (rows_at D t)
  chain_has_every_row t = rows-every D (different D L) (length t) t

  -- 6. Demand 2: the table gives that list
  pub demand_2_table : (t : List ℕ) → Octets t → table_codes D t ≡ encode D t
  demand_2_table t o = table_codes-encode D L t (known-text rows A t o)

  -- the last code in appending (the first one in prepending) is the one row that ends (begins) the text and reaches its other end or passes
  pub end_code_exists : (side : Side) (s : List ℕ) → Octets s → (s ≡ [] → ⊥) → Ends D side s (end_code side (encode D (in_order side s)))
  end_code_exists side s o = end-code D L side s (known-text rows A s o)

  pub end_code_is_one : (side : Side) (s : List ℕ) (c : ℕ) → Octets s → Ends D side s c → c ≡ end_code side (encode D (in_order side s))
  end_code_is_one side s c o = one_end D L side s c (known-text rows A s o)

  -- records in form are the true ones, and the true ones are in form
  pub records_in_form_are_true : (side : Side) (s codes counts : List ℕ) → Octets s → (n : ℕ) → n ≤ length s
      → ((i : ℕ) → i < n → in_form D side s codes counts i ≡ true) → (i : ℕ) → i < n → TrueAt D side s codes counts i
  records_in_form_are_true side s codes counts o = forms_true D side L s (known-text rows A s o) codes counts

  pub true_records_are_in_form : (side : Side) (s codes counts : List ℕ) → Octets s → (n : ℕ) → n ≤ length s
      → ((i : ℕ) → i < n → TrueAt D side s codes counts i) → (i : ℕ) → i < n → in_form D side s codes counts i ≡ true
  true_records_are_in_form side s codes counts o = trues_form D side L s (known-text rows A s o) codes counts

  -- 7. Tree numbers: an ancestor exactly if number p <= number e < end p
  pub ancestor_by_numbers : (t : List ℕ) (p e : ℕ) → p ≤ length t → e ≤ length t
      → (above (parent_of D t) p e ≡ true) ↔ ((tree_number D t p ≤ tree_number D t e) × (tree_number D t e < tree_end D t p))
  ancestor_by_numbers = above↔numbers D L

  -- splicing: where the piece from s and the prefix both have a cut at p with the same code before it, the prepared tables take over
  pub interval_by_splicing : (t : List ℕ) (s p e : ℕ) (X : List ℕ) (c : ℕ) → s ≤ p → e ≤ length t
      → encode D (take (p - s) (drop s t)) ≡ X ++ c ∷ [] → last_code D (take p t) ≡ c → above (parent_of D t) p e ≡ true
      → (depth D t p ≤ depth D t e) × (interval_count D t s e ≡ interval_count D t s p + (depth D t e - depth D t p))
  interval_by_splicing = interval_count_lem D L

  -- 8. Demand 2: the shortest encoder gives the fewest codes, ties as document 01 says
  pub demand_2_shortest : (t : List ℕ) → Octets t → Fewest D t (shortest D t)
  demand_2_shortest t o = record {
    rows = shortest-rows D L t (known-text rows A t o);
    spells = shortest-spells D L t (known-text rows A t o);
    least = shortest-least D L t (known-text rows A t o);
    ties = shortest-ties D L t (known-text rows A t o);
  }

  -- 9. Demand 2: decoding any encoder's codes gives the text
  pub demand_2_decoding : (t : List ℕ) → Octets t → Decoded D t
  demand_2_decoding t o = decoded D L t (known-text rows A t o)
