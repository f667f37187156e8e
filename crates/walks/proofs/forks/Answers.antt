-- A row that is no spawn row is not asked further.
use mathlib.Core.Path.{sym, ◌∙◌}
use Rattle.program.specs.Maybe.{has, ◌>>=◌}
use Rattle.forms.proofs.Forms.{fork_end, fork_bind, lacks_spawn}
use Rattle.walks.specs.Walks.{forks_on}
use Rattle.walks.proofs.forks.Goals as goal

pub returns-in_default : goal.returns-in_default
unfolding forks_on has
returns-in_default c = rw (fork_end _ _ (sym c.row_in.ensures ∙ c.in_default.is))

pub returns-in_default-form : goal.returns-in_default-form
unfolding forks_on has ◌>>=◌
returns-in_default-form c = rw (fork_bind _ _ (sym c.row_in.ensures ∙ c.in-Bind.is), lacks_spawn _ c.in_default-form.not-Spawn)

pub returns-then-leads : goal.returns-then-leads
unfolding forks_on has ◌>>=◌
returns-then-leads c =
    let is-bind = sym c.row_in.ensures ∙ c.in-Bind.is in
    rw (fork_bind _ _ is-bind, c.in-Spawn.is, ← c.leads.ensures, c.if-leads.true) c.leads-then-leads.ensures

pub returns-else-leads : goal.returns-else-leads
unfolding forks_on has ◌>>=◌
returns-else-leads c =
    let is-bind = sym c.row_in.ensures ∙ c.in-Bind.is in
    rw (fork_bind _ _ is-bind, c.in-Spawn.is, ← c.leads.ensures, c.if-leads.false)
