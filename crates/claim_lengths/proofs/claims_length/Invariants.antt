-- The loop's invariant: of the length, that of the lines of the claims from row c on is left.
use Rattle.number_lengths.proofs.Sums.{Counted}
use Rattle.claim_lengths.proofs.Claims.{claims_from}
use Rattle.claim_lengths.proofs.claims_length.Given as goal

abbrev pub invariant-loop-c : goal.invariant-loop-c
invariant-loop-c l = Counted (claims_from 0 l.codes) l.total (claims_from l.c l.codes)
