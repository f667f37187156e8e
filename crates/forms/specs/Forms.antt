-- The form of a row.
use Rattle.program.specs.declared.Row.{Row}
use Rattle.program.specs.declared.Form.{Form}

-- the form of a row; of a result, unit, which holds no name and no row
unfoldable pub form_in : Row → Form
form_in (Row.Result n) = Form.Unit
form_in (Row.Bind b) = b.form
