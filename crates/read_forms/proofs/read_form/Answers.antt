-- The steps of the definition with the numbers as five (`Forms.form_read_lem`); a form's word never has the code of a result.
use Rattle.std.proofs.Common.{refl, sym}
use Rattle.program.specs.Maybe.{◌>>=◌}
use Rattle.format.specs.Text.{ascii}
use Rattle.kinds.proofs.Counts.{arity_small}
use Rattle.read_forms.proofs.Forms.{form_read_lem, code_of_form}
use Rattle.read_forms.proofs.read_form.Goals as goal

pub read_numbers-requires : goal.read_numbers-requires
read_numbers-requires c = rw c.arity.ensures (arity_small _)

pub returns-in_err-kind : goal.returns-in_err-kind
unfolding ◌>>=◌
returns-in_err-kind c = rw c.from_residual.ensures (record { reads = rw (form_read_lem, ← c.in_err-kind.ensures); no_result = refl })

pub returns-in_err-numbers : goal.returns-in_err-numbers
unfolding ◌>>=◌
returns-in_err-numbers c =
    rw c.from_residual-in_err-numbers.ensures
    (record { reads = rw (form_read_lem, ← c.in_ok-kind.ensures, ← c.arity.ensures, ← c.in_err-numbers.ensures); no_result = refl })

pub returns-in_err-next : goal.returns-in_err-next
unfolding ascii ◌>>=◌
returns-in_err-next c =
    rw c.from_residual-in_err-next.ensures
    (record { reads = rw (form_read_lem, ← c.in_ok-kind.ensures, ← c.arity.ensures, ← c.in_ok-numbers.ensures, ← c.in_err-next.ensures); no_result = refl })

pub returns : goal.returns
unfolding ascii ◌>>=◌
returns c =
    record {
      reads = rw (form_read_lem, ← c.in_ok-kind.ensures, ← c.arity.ensures, ← c.in_ok-numbers.ensures, ← c.in_ok-next.ensures);
      no_result = code_of_form _ _ _ _ (sym c.in_ok-kind.ensures);
    }
