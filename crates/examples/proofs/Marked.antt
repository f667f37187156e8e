-- The marked examples, as one list with one proof, over the definitions of the calls; and two of one-sync.
use Prim.Native.String.{String}
use mathlib.Core.List.{List, [], ◌∷◌, map}
use mathlib.Core.Path.{◌≡◌, refl}
use Rattle.calls.specs.Answers.{turned_back, answered}
use Rattle.example_files.proofs.Files.{file, lines_a, variant, tried}

-- A; A without flow 4; A without comm; A with claim 2; row 8 as `[result 3]`; header only; row 1 with rest 159, and with rest 160; claim absent
marked : map tried
    (file lines_a ∷
    variant 15 [] ∷
    variant 18 [] ∷
    variant 19 ("[claim 2 one-shot]" ∷ []) ∷
    variant 10 ("[row 8 [result 3]]" ∷ []) ∷
    file ("[dispenser 1]" ∷ []) ∷
    variant 3 ("[row 1 [bind 1 [chan] 159]]" ∷ []) ∷
    variant 3 ("[row 1 [bind 1 [chan] 160]]" ∷ []) ∷
    variant 19 [] ∷ [])
    ≡
    ((answered (9 ∷ 7 ∷ 1 ∷ 1 ∷ []) ∷ answered (1 ∷ []) ∷ []) ∷
    (answered (9 ∷ 6 ∷ 1 ∷ 1 ∷ []) ∷ turned_back 10 6 ∷ []) ∷
    (answered (9 ∷ 7 ∷ 0 ∷ 1 ∷ []) ∷ turned_back 10 9 ∷ []) ∷
    (turned_back 9 19 ∷ turned_back 21 0 ∷ []) ∷
    (turned_back 8 10 ∷ turned_back 21 0 ∷ []) ∷
    (turned_back 4 2 ∷ turned_back 21 0 ∷ []) ∷
    (turned_back 6 3 ∷ turned_back 21 0 ∷ []) ∷
    (turned_back 3 3 ∷ turned_back 21 0 ∷ []) ∷
    (answered (9 ∷ 7 ∷ 1 ∷ 0 ∷ []) ∷ answered (0 ∷ []) ∷ []) ∷ [])
unfolding tried variant
marked = refl

-- "Parent sends, then spawns a child that sends: fan-out yes, one-shot no": accepted, and 11 at the claim's line
lines_in_turn : String → List String
lines_in_turn claim =
    "[dispenser 1]" ∷
    "[row 0 [bind 0 [unit] 1]]" ∷
    "[row 1 [bind 1 [chan] 2]]" ∷
    "[row 2 [bind 2 [send 1 0] 3]]" ∷
    "[row 3 [bind 3 [sync 2] 4]]" ∷
    "[row 4 [bind 4 [spawn 5] 7]]" ∷
    "[row 5 [bind 5 [sync 2] 6]]" ∷
    "[row 6 [result 5]]" ∷
    "[row 7 [result 4]]" ∷
    "[flow 0 [u]]" ∷
    "[flow 1 [1]]" ∷
    "[flow 2 [2]]" ∷
    "[flow 3 [u]]" ∷
    "[flow 4 [u]]" ∷
    "[flow 5 [u]]" ∷
    "[comm 1 [u]]" ∷
    claim ∷
    []

in_turn : map (λ c. tried (file (lines_in_turn c))) ("[claim 1 fan-out]" ∷ "[claim 1 one-shot]" ∷ [])
    ≡ ((answered (8 ∷ 6 ∷ 1 ∷ 1 ∷ []) ∷ answered (1 ∷ []) ∷ []) ∷ (answered (8 ∷ 6 ∷ 1 ∷ 1 ∷ []) ∷ turned_back 11 17 ∷ []) ∷ [])
unfolding tried variant lines_in_turn
in_turn = refl

-- one-sync: of A it holds; of A whose child receives once more behind the first time, it does not
lines_twice : List String
lines_twice =
    "[dispenser 1]" ∷
    "[row 0 [bind 0 [unit] 1]]" ∷
    "[row 1 [bind 1 [chan] 2]]" ∷
    "[row 2 [bind 2 [spawn 3] 7]]" ∷
    "[row 3 [bind 3 [recv 1] 4]]" ∷
    "[row 4 [bind 4 [sync 3] 5]]" ∷
    "[row 5 [bind 7 [sync 3] 6]]" ∷
    "[row 6 [result 4]]" ∷
    "[row 7 [bind 5 [send 1 0] 8]]" ∷
    "[row 8 [bind 6 [sync 5] 9]]" ∷
    "[row 9 [result 6]]" ∷
    "[flow 0 [u]]" ∷
    "[flow 1 [1]]" ∷
    "[flow 2 [u]]" ∷
    "[flow 3 [3]]" ∷
    "[flow 4 [u]]" ∷
    "[flow 5 [7]]" ∷
    "[flow 6 [u]]" ∷
    "[flow 7 [u]]" ∷
    "[comm 1 [u]]" ∷
    "[claim 1 one-sync]" ∷
    []

one_sync : map tried (variant 19 ("[claim 1 one-sync]" ∷ []) ∷ file lines_twice ∷ [])
    ≡ ((answered (9 ∷ 7 ∷ 1 ∷ 1 ∷ []) ∷ answered (1 ∷ []) ∷ []) ∷ (answered (10 ∷ 8 ∷ 1 ∷ 1 ∷ []) ∷ turned_back 11 21 ∷ []) ∷ [])
unfolding tried variant lines_twice
one_sync = refl
