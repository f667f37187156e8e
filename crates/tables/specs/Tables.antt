-- The sets of a store as tables, which stand beside its document.
unfoldable pub use Rattle.store.specs.Document.{flag_at, flow_flag, comm_flag, store_flow, store_comm}
