-- The kinds that are listed, by name.
use Rattle.std.specs.Prelude.{ℕ}
use Rattle.row_lists.specs.declared.Kind.{Kind}
use Rattle.row_lists.specs.declared.Kind.TheVariants.{Chan, Send, Recv, Spawn, Sync}
use Rattle.row_lists.specs.Lists.{chan_kind, send_kind, recv_kind, spawn_kind, sync_kind}

-- the code of a kind in a store
abbrev pub code_of : Kind → ℕ
code_of Chan = chan_kind
code_of Send = send_kind
code_of Recv = recv_kind
code_of Spawn = spawn_kind
code_of Sync = sync_kind
