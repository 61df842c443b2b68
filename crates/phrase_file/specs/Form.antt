-- The phrase file of document 01: per row a two-byte mark hex C7 51, one length byte 1 to 64, then that many bytes. A
-- file is a list of octets.
use Rattle.std.specs.Prelude.{List, [], ◌∷◌, map, Bool, true, false, cond, ◌&&◌, ℕ, zero, suc, ◌+◌, length, get_or, take, drop, leb, eqb}

-- whether a whole record stands at an offset: the mark, a length byte 1 to 64, and that many bytes
unfoldable pub is_record : List ℕ → ℕ → Bool
is_record file at =
    eqb (get_or file at 0) 0xc7
    && eqb (get_or file (at + 1) 0) 0x51
    && leb 1 (get_or file (at + 2) 0)
    && leb (get_or file (at + 2) 0) 64
    && leb (at + 3 + get_or file (at + 2) 0) (length file)

-- the length of the row in the record at an offset, 0 where no whole record stands
unfoldable pub row_length : List ℕ → ℕ → ℕ
row_length file at = cond (is_record file at) (get_or file (at + 2) 0) 0

-- the bytes of that row
unfoldable pub row_bytes : List ℕ → ℕ → List ℕ
row_bytes file at = take (row_length file at) (drop (at + 3) file)

-- the places of the records that follow each other from an offset on, `most` of them at most
unfoldable pub places_within : ℕ → List ℕ → ℕ → List ℕ
places_within zero file at = []
places_within (suc most) file at =
    elim (is_record file at) [ true ↦ at ∷ places_within most file (at + 3 + row_length file at) | false ↦ [] ]

-- all of them: a file has no more records than bytes
unfoldable pub places_from : List ℕ → ℕ → List ℕ
places_from file at = places_within (length file) file at

-- the places of a file's rows, by row number: the offsets of their marks
unfoldable pub places : List ℕ → List ℕ
places file = places_from file 0

-- the rows of a file, by row number: their bytes
unfoldable pub rows : List ℕ → List (List ℕ)
rows file = map (row_bytes file) (places file)

-- where the records at these places end, if the first stands at `at`
unfoldable pub end_after : List ℕ → ℕ → List ℕ → ℕ
end_after file at [] = at
end_after file at (place ∷ rest) = end_after file (place + 3 + row_length file place) rest

-- where a file's records end: at the file's end, or at the offset of the first bad record
unfoldable pub records_end : List ℕ → ℕ
records_end file = end_after file 0 (places file)
