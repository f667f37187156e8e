-- "Walks and claims", as tests: the verdict on two sets of places, from which rows are reached from which.
-- That it says of all pairs of walks what `Walk.Holds` says is a theorem (proofs/Decides/Verdicts).
use Rattle.std.specs.Prelude.{ℕ, Bool, true, not, ◌&&◌, ◌||◌, length, eqb}
use Rattle.program.specs.declared.Ends.{Ends}
use Rattle.program.specs.declared.Facts.{Facts}
use Rattle.program.specs.declared.Word.{Word}
use Rattle.program.specs.declared.Word.TheVariants.{OneShot, OneToOne, FanOut, FanIn, Many, OneSync}
use Rattle.program.specs.Test.{any}
use Rattle.program.specs.Maybe.{has}
use Rattle.program.specs.Program.{Program, fork_at}
use Rattle.program.specs.Flow.{Table}
use Rattle.program.specs.Walk.{edge}
use Rattle.program.specs.Closure.{closed}

-- row s is reached from row r by one or more row steps
unfoldable pub reach : Program → Table → ℕ → ℕ → Bool
reach p flow = closed (length p) (edge p flow)

-- of the walks that come to some places any two are the same
abbrev pub once : Ends → Bool
once e = not e.twice && not e.rivals

-- what a word says, by what is found of walks that come to send places and to receive places
unfoldable pub says : Word → Facts → Bool
says OneShot f = once f.sends
says OneToOne f = not f.sends.rivals && not f.receives.rivals
says FanOut f = not f.sends.rivals
says FanIn f = not f.receives.rivals
says Many f = true
says OneSync f = once f.sends && once f.receives

-- what follows takes that relation as it comes
module _ (p : Program) (reach : ℕ → ℕ → Bool) where
  -- a walk comes to row r
  unfoldable pub reached : ℕ → Bool
  reached r = eqb r 0 || reach 0 r

  -- from row r one of the places is reached, or r is one
  unfoldable pub leads : (ℕ → Bool) → ℕ → Bool
  leads places r = places r || any (length p) λ s. reach r s && places s

  -- `comes` tells the rows at which the shared beginning of two judged walks can end; where all pairs that can share a run are judged, it is `reached`
  module _ (comes : ℕ → Bool) where
    -- a walk comes to two of the places, one after the other
    unfoldable pub in_a_row : (ℕ → Bool) → Bool
    in_a_row places = any (length p) λ r. comes r && (places r && any (length p) λ s. reach r s && places s)

    -- two walks that part at a spawn row come to places
    unfoldable pub rivals : (ℕ → Bool) → Bool
    rivals places = any (length p) λ q. comes q && has (fork_at p q) λ (t, rest). leads places t && leads places rest

    -- the two, of one set of places
    unfoldable pub ends : (ℕ → Bool) → Ends
    ends places = record { twice = in_a_row places; rivals = rivals places }

    -- of the send places and of the receive places
    unfoldable pub facts : (ℕ → Bool) → (ℕ → Bool) → Facts
    facts sends receives = record { sends = ends sends; receives = ends receives }

    unfoldable pub verdict : Word → (ℕ → Bool) → (ℕ → Bool) → Bool
    verdict word sends receives = says word (facts sends receives)
