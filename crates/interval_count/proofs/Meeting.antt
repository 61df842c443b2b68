-- Where the codes of a piece and the prepared tables meet: the tables give the count of the rest. Assumes nothing.
use mathlib.Core.Path.{◌≡◌, sym, ap, ◌∙◌}
use mathlib.Core.List.{List, [], ◌∷◌, ◌++◌}
use Prim.Native.Nat.{ℕ, suc, ◌+◌, ◌-◌, ◌≤◌, ◌<◌}
use native.Mathlib.Omega.{arith}
use lib.ListN.{length, length-append, length-drop, get_or, take, drop}
use lib.Seq.{length-take-le, take-suc, take_at, take-take}
use Rattle.theory.specs.Dictionary.{Dictionary, spell}
use Rattle.theory.specs.Merge.{encode}
use Rattle.theory.specs.Table.{last_code}
use Rattle.theory.specs.Tree.{interval_count}
use Rattle.theory.specs.Backtracking.{State, codes, place}
use Rattle.theory.proofs.PairCheck.{Lawful}
use Rattle.theory.proofs.Backtracking.{Going}
use Rattle.theory.proofs.Interval.{above↔numbers, interval_count_lem}
use Rattle.built_tables.specs.Built.{dictionary_of}
use Rattle.backtrack_encoder.specs.declared.BacktrackEncoder.{BacktrackEncoder}
use Rattle.backtrack_encoder.specs.Encoder.{stack_of, EncoderReady}
use Rattle.backtrack_encoder.proofs.Stack.{stack-codes}
use Rattle.built_tables.specs.IntervalTables.{Prepared}
use Rattle.interval_count.specs.Steps.{Meets}

-- a state on the way has the codes of the piece up to its place
module _ (D : Dictionary) (piece : List ℕ) (s : State) (g : Going D piece s) (inside : place D s.stack ≤ length piece) where
  spelled : take (place D s.stack) piece ≡ spell D (codes s.stack)
  spelled =
      let n : length (spell D (codes s.stack)) ≡ place D s.stack =
      omega (arith, ap length g.text, length-append (spell D (codes s.stack)) (drop (place D s.stack) piece), length-drop (place D s.stack) piece) in
      ap (take (place D s.stack)) g.text ∙ take_at (spell D (codes s.stack)) (drop (place D s.stack) piece) (place D s.stack) n

  pub way_codes : encode D (take (place D s.stack) piece) ≡ codes s.stack
  way_codes = ap (encode D) spelled ∙ g.own

module _ (file : List ℕ) (n : ℕ) (piece work : List ℕ) (e : BacktrackEncoder) (R : EncoderReady file n piece e work) (room : e.count ≤ length work)
    (s : State) (g : Going (dictionary_of file) piece s) (stack : s.stack ≡ stack_of work e.count) where
  abbrev D : Dictionary
  D = dictionary_of file

  at : e.pos ≡ place D s.stack
  at = R.reached ∙ ap (place D) (sym stack)

  -- the encoder's codes are the piece's up to its place
  pub encoder_codes : encode D (take e.pos piece) ≡ take e.count work
  encoder_codes =
      ap (λ (k : ℕ). encode D (take k piece)) at ∙ way_codes D piece s g (omega (arith, at, R.inside)) ∙ ap codes stack ∙ stack-codes work e.count room

  module _ (text last_codes numbers ends depths : List ℕ) (from to : ℕ) (L : Lawful D) (P : Prepared file text last_codes numbers ends depths)
      (few : e.count ≤ e.pos) (size : from + length piece ≡ to) (fits : to ≤ length text) (is : piece ≡ take (to - from) (drop from text)) (M : Meets e work last_codes numbers ends from to) where
    abbrev p : ℕ
    p = from + e.pos

    abbrev last : ℕ
    last = get_or work (e.count - 1) 0

    up_to : take e.pos piece ≡ take (p - from) (drop from text)
    up_to =
        let z : e.pos ≡ p - from = omega arith in
        ap (take e.pos) is ∙ take-take e.pos (to - from) (drop from text) (omega (arith, R.inside)) ∙ ap (λ (k : ℕ). take k (drop from text)) z

    front : encode D (take (p - from) (drop from text)) ≡ take (e.count - 1) work ++ last ∷ []
    front =
        let z : suc (e.count - 1) ≡ e.count = omega (arith, M.some) in
        sym (ap (encode D) up_to) ∙ encoder_codes ∙ ap (λ (k : ℕ). take k work) (sym z) ∙ take-suc work (e.count - 1) 0 (omega (arith, M.some))

    inside-text : p ≤ length text
    inside-text = omega (arith, R.inside)

    some-place : 0 < p
    some-place = omega (arith, few, M.some)

    same-last : last_code D (take p text) ≡ last
    same-last =
        let z : suc (p - 1) ≡ p = omega (arith, some-place) in
        sym (ap (λ (k : ℕ). last_code D (take k text)) z) ∙ sym (P.last_codes_are (p - 1) (omega (arith, inside-text, some-place))) ∙ M.same_code

    pub met-count : e.count + (get_or depths to 0 - get_or depths p 0) ≡ interval_count D text from to
    unfolding interval_count
    met-count =
        let a = (above↔numbers D L text p to inside-text fits).1 (omega (arith, P.numbers_are p inside-text, P.numbers_are to fits, M.least), omega (arith, P.ends_are p inside-text, P.numbers_are to fits, M.below)) in
        let q = (interval_count_lem D L text from p to (take (e.count - 1) work) last (omega arith) fits front same-last a).1 in
        let c : length (encode D (take (p - from) (drop from text))) ≡ e.count =
        ap length front ∙ length-append (take (e.count - 1) work) (last ∷ []) ∙ omega (arith, length-take-le (e.count - 1) work (omega arith), M.some) in
        omega (arith, q, c, P.depths_are p inside-text, P.depths_are to fits)
