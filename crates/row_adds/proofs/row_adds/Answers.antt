-- `row_adds` meets its contract: a result has no rule, a bind that of its form.
use Rattle.row_adds.proofs.Rows.{bind_low, bind_keeps}
use Rattle.row_adds.proofs.row_adds.Goals as goal

pub form_adds-requires : goal.form_adds-requires
form_adds-requires c = record {
  ready = c.requires.ready;
  names = c.requires.names;
  r_lt_row_limit = (
    c.requires.r_lt_row_limit,
    (bind_low c.requires.ready _
        c.row_in.ensures c.in-Bind.is).0,
    (bind_low c.requires.ready _
        c.row_in.ensures c.in-Bind.is).1,
  );
}

pub returns : goal.returns
returns c =
    bind_keeps _ _ c.row_in.ensures c.in-Bind.is c.form_adds.ensures
