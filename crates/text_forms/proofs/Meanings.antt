-- The steps of a line's meaning, and what each escape writes. Assumes nothing.
use Rattle.std.proofs.Common.{◌≡◌, ℕ, ◌+◌, ◌*◌, ◌%◌, ◌<◌, ◌≤◌, Bool, cond, List, [], ◌∷◌, ◌++◌, length, get_or, take}
use Rattle.std.proofs.Common.{drop, set, sym, refl, ap, ◌∙◌, add-one, arith, drop_of_length-le, length-take-le}
use Rattle.std.proofs.Common.{drop-cons, take-suc-set, le-ltb, lt-ltb, Some, Result, Err}
use Rattle.text_forms.specs.declared.escapes.Reading.{Reading}
use Rattle.text_forms.specs.declared.escapes.Reading.TheVariants.{Plain, Escape, High, Low}
use Rattle.text_forms.specs.declared.escapes.Step.{Step}
use Rattle.text_forms.specs.declared.escapes.Step.TheVariants.{Writes, Goes, Wrong}
use Rattle.text_forms.specs.declared.escapes.PhraseError.{PhraseError}
use Rattle.text_forms.specs.declared.escapes.PhraseError.TheVariants.{Long, WrongEscape}
use Rattle.text_forms.specs.Escapes.{Meaning, whole, long, wrong, value_of, backslashed, first_digit, second_digit}
use Rattle.text_forms.specs.Escapes.{step_of, ending, after, meaning, end_of, phrase_of, Unescaped}

module _ (room : ℕ) (r : Reading) (w : List ℕ) (b : ℕ) (rest : List ℕ) where
  -- what a step does, once it is known
  step_is : (s : Step) → step_of r b ≡ s → meaning room r w (b ∷ rest) ≡ after room s w (λ (r' : Reading) (w' : List ℕ). meaning room r' w' rest)
  unfolding meaning
  step_is s e = ap (λ (t : Step). after room t w (λ (r' : Reading) (w' : List ℕ). meaning room r' w' rest)) e

  pub step_writes : (v : ℕ) → step_of r b ≡ Writes v → length w < room → meaning room r w (b ∷ rest) ≡ meaning room Plain (w ++ (v ∷ [])) rest
  unfolding after
  step_writes v e h = step_is (Writes v) e ∙ ap (λ (t : Bool). cond t (meaning room Plain (w ++ (v ∷ [])) rest) long) (lt-ltb (length w) room h)

  pub step-long : (v : ℕ) → step_of r b ≡ Writes v → room ≤ length w → meaning room r w (b ∷ rest) ≡ long
  unfolding after
  step-long v e h = step_is (Writes v) e ∙ ap (λ (t : Bool). cond t (meaning room Plain (w ++ (v ∷ [])) rest) long) (le-ltb (length w) room h)

  pub step_goes : (t : Reading) → step_of r b ≡ Goes t → meaning room r w (b ∷ rest) ≡ meaning room t w rest
  unfolding after
  step_goes t e = step_is (Goes t) e

  pub step-wrong : step_of r b ≡ Wrong → meaning room r w (b ∷ rest) ≡ wrong
  unfolding after
  step-wrong e = step_is Wrong e

-- the end of a line
pub end_is : (room : ℕ) (r : Reading) (w : List ℕ) → end_of r (length w) ≡ phrase_of (meaning room r w [])
unfolding meaning ending end_of phrase_of
end_is room Plain w = refl
end_is room Escape w = refl
end_is room High w = refl
end_is room (Low h) w = refl

-- what each escape writes, where there is room for a byte more
module _ (room : ℕ) (w rest : List ℕ) (h : length w < room) where
  pub tab : meaning room Plain w (92 ∷ 116 ∷ rest) ≡ meaning room Plain (w ++ (9 ∷ [])) rest
  unfolding step_of backslashed
  tab = step_goes room Plain w 92 (116 ∷ rest) Escape refl ∙ step_writes room Escape w 116 rest 9 refl h

  pub line_end : meaning room Plain w (92 ∷ 110 ∷ rest) ≡ meaning room Plain (w ++ (10 ∷ [])) rest
  unfolding step_of backslashed
  line_end = step_goes room Plain w 92 (110 ∷ rest) Escape refl ∙ step_writes room Escape w 110 rest 10 refl h

  pub backslash : meaning room Plain w (92 ∷ 92 ∷ rest) ≡ meaning room Plain (w ++ (92 ∷ [])) rest
  unfolding step_of backslashed
  backslash = step_goes room Plain w 92 (92 ∷ rest) Escape refl ∙ step_writes room Escape w 92 rest 92 refl h

  -- \xNN, by the values of its two digits
  pub hex : (x y high low : ℕ) → value_of x ≡ Some high → value_of y ≡ Some low
      → meaning room Plain w (92 ∷ 120 ∷ x ∷ y ∷ rest) ≡ meaning room Plain (w ++ ((high % 16 * 16 + low % 16) ∷ [])) rest
  unfolding step_of backslashed first_digit second_digit
  hex x y high low e f =
      step_goes room Plain w 92 (120 ∷ x ∷ y ∷ rest) Escape refl
      ∙ step_goes room Escape w 120 (x ∷ y ∷ rest) High refl
      ∙ step_goes room High w x (y ∷ rest) (Low high) (ap first_digit e)
      ∙ step_writes room (Low high) w y rest (high % 16 * 16 + low % 16) (ap (second_digit high) f) h

-- a turn of the reader: it stands at place i of the line, and the bytes so far are the first of a buffer
module _ (line out : List ℕ) (i size room : ℕ) (r : Reading) (m : Meaning) (inside : i < length line) (most : size ≤ room) (same : length out ≡ room)
    (is : meaning room r (take size out) (drop i line) ≡ m) where
  next-byte : drop i line ≡ get_or line i 0 ∷ drop (i + 1) line
  next-byte = drop-cons line i 0 inside ∙ ap (λ (n : ℕ). get_or line i 0 ∷ drop n line) (sym (add-one i))

  so_far : length (take size out) ≡ size
  so_far = length-take-le size out (omega (arith, same, most))

  at_next : meaning room r (take size out) (get_or line i 0 ∷ drop (i + 1) line) ≡ m
  at_next = ap (meaning room r (take size out)) (sym next-byte) ∙ is

  pub written_on : (v : ℕ) → step_of r (get_or line i 0) ≡ Writes v → size < room → meaning room Plain (take (size + 1) (set out size v)) (drop (i + 1) line) ≡ m
  written_on v e h =
      ap (λ (w : List ℕ). meaning room Plain w (drop (i + 1) line)) (ap (λ (n : ℕ). take n (set out size v)) (add-one size) ∙ take-suc-set out size v (omega (arith, same, h)))
      ∙ sym (step_writes room r (take size out) (get_or line i 0) (drop (i + 1) line) v e (omega (arith, so_far, h)))
      ∙ at_next

  pub gone-on : (t : Reading) → step_of r (get_or line i 0) ≡ Goes t → meaning room t (take size out) (drop (i + 1) line) ≡ m
  gone-on t e = sym (step_goes room r (take size out) (get_or line i 0) (drop (i + 1) line) t e) ∙ at_next

  pub too_long : (v : ℕ) → step_of r (get_or line i 0) ≡ Writes v → room ≤ size → m ≡ long
  too_long v e h = sym at_next ∙ step-long room r (take size out) (get_or line i 0) (drop (i + 1) line) v e (omega (arith, so_far, h))

  pub gone-wrong : step_of r (get_or line i 0) ≡ Wrong → m ≡ wrong
  gone-wrong e = sym at_next ∙ step-wrong room r (take size out) (get_or line i 0) (drop (i + 1) line) e

-- a refusal: no bytes are promised
pub refused-long : (line out out' : List ℕ) → meaning (length out) Plain [] line ≡ long → Unescaped line out out' (Err Long)
unfolding phrase_of
refused-long line out out' e = record { answer = ap phrase_of (sym e); bytes = λ (w : List ℕ) (f : meaning (length out) Plain [] line ≡ whole w). cc }

pub refused-wrong : (line out out' : List ℕ) → meaning (length out) Plain [] line ≡ wrong → Unescaped line out out' (Err WrongEscape)
unfolding phrase_of
refused-wrong line out out' e = record { answer = ap phrase_of (sym e); bytes = λ (w : List ℕ) (f : meaning (length out) Plain [] line ≡ whole w). cc }

-- the bytes at the end of a line
ends-bytes : (r : Reading) (out : List ℕ) (size : ℕ) → size ≤ length out → (w : List ℕ) → ending r (take size out) ≡ whole w → take (length w) out ≡ w
unfolding ending
ends-bytes Plain out size h w e =
    let q : take size out ≡ w = cc in
    ap (λ (n : ℕ). take n out) (ap length (sym q) ∙ length-take-le size out h) ∙ q
ends-bytes Escape out size h w e = cc
ends-bytes High out size h w e = cc
ends-bytes (Low v) out size h w e = cc

-- the answer at the end of a line
pub finished : (line out out' : List ℕ) (i size : ℕ) (r : Reading) (p : Result ℕ PhraseError) → p ≡ end_of r size → length line ≤ i → size ≤ length out → length out' ≡ length out
    → meaning (length out) r (take size out') (drop i line) ≡ meaning (length out) Plain [] line → Unescaped line out out' p
unfolding meaning
finished line out out' i size r p answered h most same is =
    let nil : drop i line ≡ [] = drop_of_length-le line h in
    let e : meaning (length out) Plain [] line ≡ ending r (take size out') = sym is ∙ ap (meaning (length out) r (take size out')) nil in
    let k : length (take size out') ≡ size = length-take-le size out' (omega (arith, same, most)) in
    record {
      answer = answered ∙ ap (end_of r) (sym k) ∙ end_is (length out) r (take size out') ∙ ap phrase_of (sym e);
      bytes = λ (w : List ℕ) (f : meaning (length out) Plain [] line ≡ whole w). ends-bytes r out' size (omega (arith, same, most)) w (sym e ∙ f);
    }
