-- Bytes that are copied to the front of an output, one by one or 16 at once. Assumes nothing.
use mathlib.Core.Path.{◌≡◌, sym, ap, ◌∙◌}
use mathlib.Core.List.{List, ◌++◌}
use Prim.Native.Nat.{ℕ, ◌+◌, ◌≤◌, ◌<◌}
use native.Mathlib.Numerals.{add-one}
use native.Mathlib.Omega.{arith}
use lib.ListN.{length, get_or, take, drop, set, length-append, length-drop, drop_of_length-le}
use lib.Seq.{drop-cons, get_or-take, length-take-le, take_at, take-take}
use Rattle.phrase_file.proofs.Filling.{Filled, filled-start, filled-length, filled_more, filled-all}
use Rattle.decoder.specs.Steps.{CopyReady, Copied}

-- j of the bytes are copied
abbrev pub Copying : List ℕ → ℕ → List ℕ → ℕ → List ℕ → Type 0
Copying source count entry j now = Filled (take count source) entry j (drop j (take count source)) now

module _ (source : List ℕ) (count : ℕ) (entry : List ℕ) (r : CopyReady source count entry) where
  whole : length (take count source) ≡ count
  whole = length-take-le count source r.given

  room : length (take count source) ≤ length entry
  room = omega (arith, r.room, whole)

  pub copy_start : Copying source count entry 0 entry
  copy_start = filled-start (take count source) entry room

  -- what the copy leaves, and that the first bytes are copied
  left-length : (out' : List ℕ) → out' ≡ take count source ++ drop count entry → length out' ≡ length entry
  left-length out' e = omega (arith, r.room, ap length e, length-append (take count source) (drop count entry), whole, length-drop count entry)

  pub copied_bytes : (out' : List ℕ) → out' ≡ take count source ++ drop count entry → Copied source count entry out'
  copied_bytes out' e = record { kept = left-length out' e; is = ap (take count) e ∙ take_at (take count source) (drop count entry) count whole }

  module _ (j : ℕ) (now : List ℕ) (f : Copying source count entry j now) where
    pub copy_length : length now ≡ length entry
    copy_length = filled-length (take count source) entry room j (drop j (take count source)) now f

    pub copy_more : j < count → Copying source count entry (j + 1) (set now j (get_or source j 0))
    copy_more h =
        let l : j < length (take count source) = omega (arith, whole) in
        rw (sym (get_or-take count source j 0 h))
        (filled_more (take count source) entry room j (drop j (take count source)) now f (get_or (take count source) j 0) (drop (j + 1) (take count source)) (rw (add-one, drop-cons (take count source) j 0 l)))

    pub copy_done : count ≤ j → now ≡ take count source ++ drop count entry
    copy_done h =
        let l : length (take count source) ≤ j = omega (arith, whole) in
        filled-all (take count source) entry room j (drop j (take count source)) now f (drop_of_length-le (take count source) l)
        ∙ ap (λ (k : ℕ). take count source ++ drop k entry) whole

-- 16 bytes are copied at once, where only `count` are asked for
pub copied_block : (source : List ℕ) (count : ℕ) (entry out' : List ℕ) → count ≤ 16 → CopyReady source 16 entry
    → out' ≡ take 16 source ++ drop 16 entry → Copied source count entry out'
copied_block source count entry out' h r e =
    let c : Copied source 16 entry out' = copied_bytes source 16 entry r out' e in
    record { kept = c.kept; is = sym (take-take count 16 out' h) ∙ ap (take count) c.is ∙ take-take count 16 source h }
