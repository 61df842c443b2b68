-- Laws of the definitions in specs/Fnv. Assumes nothing.
use Rattle.std.proofs.Common.{◌≡◌, ℕ, ◌+◌, ◌<◌, ◌≤◌, List, [], ◌∷◌, ◌++◌, length, get_or, take, drop, sym, refl, ap, ◌∙◌, add-one, take-append-drop, drop_of_length-le, drop-cons, rules}
use Rattle.std.specs.Int.{w64, to_le_bytes}
use Rattle.fnv.specs.Fnv.{fnv_offset, fnv_step, fnv, octets, row_octets, RowValue}

-- for every cut, going on from the first part's value over the second gives the whole's value
pub fnv-append : (h : ℕ) (s t : List ℕ) → fnv h (s ++ t) ≡ fnv (fnv h s) t
unfolding fnv
fnv-append h [] t = refl
fnv-append h (b ∷ s) t = fnv-append (fnv_step h b) s t

-- the same, with the cut after k octets
pub fnv-cut : (h k : ℕ) (s : List ℕ) → fnv (fnv h (take k s)) (drop k s) ≡ fnv h s
fnv-cut h k s = rw (← fnv-append, take-append-drop)

-- one byte more
pub fnv-drop : (h i : ℕ) (s : List ℕ) → i < length s → fnv h (drop i s) ≡ fnv (fnv_step h (get_or s i 0)) (drop (i + 1) s)
unfolding fnv
fnv-drop h i s l = rw (add-one, drop-cons s i 0)

-- past the end nothing is left
pub fnv-done : (h i : ℕ) (s : List ℕ) → length s ≤ i → fnv h (drop i s) ≡ h
unfolding fnv
fnv-done h i s l = rw (drop_of_length-le s l)

-- `to_le_bytes` of a u64
le-octets : (n : ℕ) → to_le_bytes w64 n ≡ octets 8 n
unfolding octets
le-octets n = search rules

-- the steps of a row's value: the length's octets, then the bytes
pub row-value : (bytes : List ℕ) {l : List ℕ} {h v : ℕ} → l ≡ to_le_bytes w64 (length bytes) → h ≡ fnv fnv_offset l → v ≡ fnv h bytes → RowValue bytes v
unfolding row_octets
row-value bytes {l} {h} {v} e₀ e₁ e₂ =
    let whole : v ≡ fnv fnv_offset (octets 8 (length bytes) ++ bytes) = rw (e₂, e₁, e₀, le-octets, fnv-append) in
    record { value = whole; going_on = λ s t e. sym (fnv-append fnv_offset s t) ∙ ap (fnv fnv_offset) e ∙ sym whole }
