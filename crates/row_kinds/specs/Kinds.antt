-- The rows of a program as far as row steps ask.
use Rattle.std.specs.Prelude.{ℕ}
use Rattle.program.specs.declared.Row.{Row}
use Rattle.program.specs.declared.Form.{Form}
use Rattle.program.specs.Program.{Program, row_at, by_kind}
use Rattle.row_kinds.specs.declared.Kind.{Kind}
use Rattle.row_kinds.specs.declared.Kind.TheVariants.{End, Next, Body, Fork, Branch, Call}

-- what a row is, as far as row steps ask
abbrev pub kind_of : ℕ → Form → Kind
kind_of rest =
    by_kind (Next rest) (Next rest) (λ c m. Next rest) (λ c. Next rest) (λ a b. Next rest) (λ a. Next rest) (λ a. Next rest) (λ f x t. Body t rest)
    (λ t. Fork t rest) (λ e. Next rest) (λ s x t y w. Branch s t w rest) (λ f a. Call f rest)

unfoldable pub kind_of_row : Row → Kind
kind_of_row (Row.Result n) = End
kind_of_row (Row.Bind b) = kind_of b.rest b.form

unfoldable pub kind_at : Program → ℕ → Kind
kind_at p r = kind_of_row (row_at p r)
