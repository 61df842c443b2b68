-- Bytes put one part after the other. Assumes nothing.
use mathlib.Core.Path.{◌≡◌, refl, sym, ap, ◌∙◌}
use mathlib.Core.List.{List, [], ◌∷◌, ◌++◌}
use Prim.Native.Nat.{ℕ, suc, ◌+◌, ◌≤◌, ◌<◌}
use native.Mathlib.Decide.{dec_lt}
use native.Mathlib.Numerals.{add-one}
use native.Mathlib.Omega.{arith}
use lib.ListN.{length, get_or, set, take, drop, length-append, length-set}
use lib.Seq.{sets, length-sets, sets-eq, set_out, take-suc, take_at, length-take-le}
use Rattle.words.specs.Parts.{behind, Put}

-- bytes put beyond the end change nothing
sets_out : (vs l : List ℕ) (i : ℕ) → length l ≤ i → sets l i vs ≡ l
sets_out [] l i h = refl
sets_out (a ∷ vs) l i h = sets_out vs (set l i a) (suc i) (omega (arith, length-set l i a, h)) ∙ set_out l i a h

-- the place behind a first byte and n more: beyond the end it does not matter
sets_same : (v l : List ℕ) (at n room : ℕ) → length l ≡ room
    → sets l (behind at (suc n) room) v ≡ sets l (behind (suc at) n room) v
sets_same v l at n room e = go (dec_lt at room)
  where
    go : Dec (at < room) → sets l (behind at (suc n) room) v ≡ sets l (behind (suc at) n room) v
    go (yes h) =
        let f : behind at (suc n) room ≡ behind (suc at) n room = omega (arith, h) in
        ap (λ (m : ℕ). sets l m v) f
    go (no g) =
        sets_out v l (behind at (suc n) room) (omega (arith, e, g))
        ∙ sym (sets_out v l (behind (suc at) n room) (omega (arith, e, g)))

-- stores from a place on, and then from the place behind them
sets_then : (u v l : List ℕ) (at : ℕ) → sets (sets l at u) (behind at (length u) (length l)) v ≡ sets l at (u ++ v)
sets_then [] v l at =
    let e : behind at 0 (length l) ≡ at = omega arith in
    ap (λ (n : ℕ). sets l n v) e
sets_then (a ∷ u) v l at =
    let m : List ℕ = sets (set l at a) (suc at) u in
    sets_same v m at (length u) (length l) (length-sets (set l at a) (suc at) u ∙ length-set l at a)
    ∙ ap (λ (room : ℕ). sets m (behind (suc at) (length u) room) v) (sym (length-set l at a))
    ∙ sets_then u v (set l at a) (suc at)

-- the buffer keeps its length
pub put-length : (out : List ℕ) (at : ℕ) (bytes out' : List ℕ) (r : ℕ) → Put out at bytes out' r
    → length out' ≡ length out
put-length out at bytes out' r p = ap length p.stored ∙ length-sets out at bytes

-- one part put after another one
pub put_then : (out : List ℕ) (at : ℕ) (u out' : List ℕ) (m : ℕ) (v out'' : List ℕ) (r : ℕ)
    → Put out at u out' m → Put out' m v out'' r → Put out at (u ++ v) out'' r
put_then out at u out' m v out'' r p q =
    record {
      place = omega (arith, p.place, q.place, put-length out at u out' m p, length-append u v);
      stored =
          q.stored ∙ ap (λ (l : List ℕ). sets l m v) p.stored
          ∙ ap (λ (n : ℕ). sets (sets out at u) n v) p.place ∙ sets_then u v out at;
    }

-- a turn of the loop that puts bytes: place i of them
pub put_next : (out : List ℕ) (at : ℕ) (bytes out' : List ℕ) (m i : ℕ) (out'' : List ℕ) (r : ℕ) → i < length bytes
    → Put out at (take i bytes) out' m → Put out' m (get_or bytes i 0 ∷ []) out'' r
    → Put out at (take (i + 1) bytes) out'' r
put_next out at bytes out' m i out'' r h p q =
    rw (add-one i, take-suc bytes i 0 h) (put_then out at (take i bytes) out' m (get_or bytes i 0 ∷ []) out'' r p q)

-- where there is room for all of them, they follow what stood before
pub put-taken : (out : List ℕ) (at : ℕ) (bytes out' : List ℕ) (r : ℕ) → at + length bytes ≤ length out
    → Put out at bytes out' r → take r out' ≡ take at out ++ bytes
put-taken out at bytes out' r h p =
    let k : length (take at out ++ bytes) ≡ r =
    length-append (take at out) bytes ∙ omega (arith, length-take-le at out (omega (arith, h)), p.place, h) in
    ap (take r) (p.stored ∙ sets-eq bytes out at h) ∙ take_at (take at out ++ bytes) (drop (at + length bytes) out) r k
