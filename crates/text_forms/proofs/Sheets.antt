-- The lines of a sheet, and the records that they leave. Assumes nothing.
use Rattle.std.proofs.Common.{◌≡◌, ℕ, ◌+◌, ◌%◌, ◌<◌, ◌≤◌, min, Bool, cond, List, [], ◌∷◌, ◌++◌, length, take, drop, sym}
use Rattle.std.proofs.Common.{refl, ap, ◌∙◌, append_assoc, append-nil, arith, length-append, length-drop}
use Rattle.std.proofs.Common.{drop_of_length-le, length-take, drop-drop, eq-eqb, ne_eqb, Result, Ok, Err}
use native.Mathlib.Decide.{ℕ_discrete, dec_lt}
use Rattle.words.specs.Parts.{count_before, after_first, Put}
use Rattle.words.proofs.Stores.{put-length, put-taken}
use Rattle.text_forms.specs.declared.escapes.Reading.TheVariants.{Plain}
use Rattle.text_forms.specs.declared.escapes.PhraseError.{PhraseError}
use Rattle.text_forms.specs.declared.escapes.PhraseError.TheVariants.{Empty}
use Rattle.text_forms.specs.declared.sheet.LineError.{LineError}
use Rattle.text_forms.specs.Escapes.{Meaning, whole, long, wrong, meaning, end_of, phrase_of, Unescaped}
use Rattle.text_forms.specs.Sheet.{escaped, first_line, other_lines, Says, AllSay, record_of, file_of}
use Rattle.text_forms.specs.Sheet.{Recorded, LineRecorded, LineAdded, PhraseAdded, Filled}

-- a phrase put behind its mark and length byte, where the record has room
pub record_put : (w file : List ℕ) (at : ℕ) (file' : List ℕ) (r : ℕ) → at + 3 + length w ≤ length file
    → Put file at (199 ∷ 81 ∷ length w % 256 ∷ w) file' r → length w ≤ 64 → Recorded file at w file' r
unfolding record_of
record_put w file at file' r h p short =
    let e : length w % 256 ≡ length w = omega (arith, short) in
    record {
      inside = omega (arith, p.place, put-length file at (199 ∷ 81 ∷ length w % 256 ∷ w) file' r p, h);
      written = put-taken file at (199 ∷ 81 ∷ length w % 256 ∷ w) file' r (omega (arith, h)) p
          ∙ ap (λ (m : ℕ). take at file ++ (199 ∷ 81 ∷ m ∷ w)) e;
    }

-- the bytes of a meaning, if there are some
pub record Meant (m : Meaning) (size : ℕ) : Type 0 where
  pub bytes : List ℕ
  pub is : m ≡ whole bytes
  pub sized : length bytes ≡ size
  pub some : 1 ≤ size

meant : (m : Meaning) (size : ℕ) → Ok size ≡ phrase_of m → Meant m size
unfolding phrase_of end_of
meant (whole w) size e = go (ℕ_discrete (length w) 0)
  where
    by : Bool → Result ℕ PhraseError
    by t = cond t (Err Empty) (Ok (length w))

    go : Dec (length w ≡ 0) → Meant (whole w) size
    go (yes z) =
        let f : ◌≡◌ {A = Result ℕ PhraseError} (Ok size) (Err Empty) = e ∙ ap by (eq-eqb (length w) 0 z) in
        let q : ◌≡◌ {A = ℕ} 0 1 = cc in
        absurd (omega (arith, q))
    go (no z) =
        let f : ◌≡◌ {A = Result ℕ PhraseError} (Ok size) (Ok (length w)) = e ∙ ap by (ne_eqb (length w) 0 z) in
        let q : size ≡ length w = cc in
        record { bytes = w; is = refl; sized = sym q; some = omega (arith, q, z) }
meant long size e =
    let q : ◌≡◌ {A = ℕ} 0 1 = cc in
    absurd (omega (arith, q))
meant wrong size e =
    let q : ◌≡◌ {A = ℕ} 0 1 = cc in
    absurd (omega (arith, q))

-- a line whose bytes were read says them
pub read-says : (line t out out' : List ℕ) (r : Result ℕ PhraseError) (size : ℕ) → t ≡ escaped line
    → length out ≡ 64 → length out' ≡ 64 → Unescaped t out out' r → r ≡ Ok size → Says line (take size out')
read-says line t out out' r size e room same u is =
    let v : Meaning = meaning (length out) Plain [] t in
    let m : Meant v size = meant v size (sym is ∙ u.answer) in
    let b : take size out' ≡ m.bytes = ap (λ (n : ℕ). take n out') (sym m.sized) ∙ u.bytes m.bytes m.is in
    let k : length (take size out') ≡ size = ap length b ∙ m.sized in
    record {
      means = ap (λ (n : ℕ). meaning n Plain [] (escaped line)) (sym room)
          ∙ ap (meaning (length out) Plain []) (sym e) ∙ m.is ∙ ap whole (sym b);
      some = omega (arith, k, m.some);
      most = omega (arith, k, length-take size out', same);
    }

-- so it is added
pub line_added : (line w file : List ℕ) (at : ℕ) (file' : List ℕ) (r : Result ℕ LineError) → Says line w
    → PhraseAdded w file at file' r → LineAdded line file at file' r
line_added line w file at file' (Ok end) s p = record { phrase = w; says = s; recorded = p s.most }
line_added line w file at file' (Err e) s p = tt

-- one more record at the end of a file
file-more : (ws : List (List ℕ)) (w : List ℕ) → file_of ws ++ record_of w ≡ file_of (ws ++ (w ∷ []))
unfolding file_of
file-more [] w = sym (append-nil (record_of w))
file-more (v ∷ ws) w =
    append_assoc (record_of v) (file_of ws) (record_of w) ∙ ap (λ (l : List ℕ). record_of v ++ l) (file-more ws w)

-- the lines so far: those before a place, and the file of their phrases
pub record SoFar (sheet file : List ℕ) (at size rows : ℕ) : Type 0 where
  pub phrases : List (List ℕ)
  pub count : length phrases ≡ rows
  pub said : (ws : List (List ℕ)) → AllSay (drop at sheet) ws → AllSay sheet (phrases ++ ws)
  pub inside : size ≤ length file
  pub written : take size file ≡ file_of phrases

pub none_yet : (sheet file : List ℕ) → SoFar sheet file 0 0 0
unfolding file_of
none_yet sheet file =
    record {
      phrases = [];
      count = refl;
      said = λ (ws : List (List ℕ)) (a : AllSay sheet ws). a;
      inside = omega arith;
      written = refl;
    }

-- the lines after the first from a place on
other_lines_lem : (sheet : List ℕ) (at : ℕ) → other_lines (drop at sheet) ≡ drop (after_first 10 sheet at) sheet
other_lines_lem sheet at = drop-drop (n + 1) at sheet ∙ go (dec_lt (at + (n + 1)) (length sheet))
  where
    n : ℕ
    n = count_before 10 (drop at sheet)

    go : Dec (at + (n + 1) < length sheet) → drop (at + (n + 1)) sheet ≡ drop (min (length sheet) (at + n + 1)) sheet
    go (yes h) =
        let e : at + (n + 1) ≡ min (length sheet) (at + n + 1) = omega (arith, h) in
        ap (λ (k : ℕ). drop k sheet) e
    go (no h) =
        drop_of_length-le sheet {i = at + (n + 1)} (omega (arith, h))
        ∙ sym (drop_of_length-le sheet {i = min (length sheet) (at + n + 1)} (omega (arith, h)))

-- a line more
pub one_more : (sheet file : List ℕ) (at size rows : ℕ) (line file' : List ℕ) (end at' : ℕ)
    → SoFar sheet file at size rows → at < length sheet → line ≡ first_line (drop at sheet)
    → LineRecorded line file size file' end → at' ≡ after_first 10 sheet at
    → SoFar sheet file' at' end (rows + 1)
unfolding AllSay
one_more sheet file at size rows line file' end at' s h is a next =
    record {
      phrases = s.phrases ++ (a.phrase ∷ []);
      count = length-append s.phrases (a.phrase ∷ []) ∙ omega (arith, s.count);
      said = λ (ws : List (List ℕ)) (q : AllSay (drop at' sheet) ws).
          let j : 1 ≤ length (drop at sheet) = omega (arith, length-drop at sheet, h) in
          let says : Says (first_line (drop at sheet)) a.phrase = rw (← is) a.says in
          let rest : AllSay (other_lines (drop at sheet)) ws = rw (other_lines_lem sheet at, ← next) q in
          rw (append_assoc s.phrases (a.phrase ∷ []) ws) (s.said (a.phrase ∷ ws) (j, says, rest));
      inside = a.recorded.inside;
      written =
          a.recorded.written ∙ ap (λ (l : List ℕ). l ++ record_of a.phrase) s.written
          ∙ file-more s.phrases a.phrase;
    }

-- the end of the sheet
pub all_made : (sheet file : List ℕ) (at size rows : ℕ) → SoFar sheet file at size rows
    → length sheet ≤ at → Filled sheet file rows size
unfolding AllSay
all_made sheet file at size rows s h =
    record {
      phrases = s.phrases;
      count = s.count;
      said = rw (← append-nil s.phrases) (s.said [] (ap length (drop_of_length-le sheet {i = at} h)));
      inside = s.inside;
      written = s.written;
    }
