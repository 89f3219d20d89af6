-- A store of files may go from thread to thread. What it holds is walked layer by layer, since one `search` through all of it
-- runs out of steps. A struct that is a field is found by its `the_field.row`, one that is an argument, as of an `Option` or an
-- `Items`, by its `the_row`.
use denote.RattleType.{RattleType}
use denote.Param.Send.{IsSend, owning_send, sendable}
use Rattle.std.proofs.Crossing.{crosses}
use Rattle.sqlite_disk.specs.declared.Disk.{Ghosts}
use Rattle.sqlite_pager.specs.contracts.pager.Pager as Pager
use Rattle.sqlite_std_file.specs.contracts.host.Host as Host
use Rattle.sqlite_std_file.specs.contracts.record.Record as Record
use Rattle.sqlite_store.specs.contracts.cursor.Cursor as Cursor
use Rattle.sqlite_store.specs.contracts.saved.Saved as Saved
use Rattle.sqlite_store.specs.contracts.store.FileStore as FileStore
use Rattle.sqlite_value.specs.contracts.row.Row as Row
use Rattle.sqlite_wal.specs.contracts.log.Log as Log

-- A record of calls exists in proofs alone, and owns nothing.
record_send : IsSend Record.the_row
record_send = owning_send Record.the_type (search sendable, tt) (λ d. tt) (λ k x w. tt)

pub host_send : IsSend Host.the_field.row
host_send = search (record_send, crosses, sendable) depth 60

row_send : IsSend Row.the_row
row_send = search (crosses, sendable) depth 40

cursor_send : IsSend Cursor.the_row
cursor_send = search (crosses, sendable) depth 60 fits 20000

saved_send : IsSend Saved.the_row
saved_send = search (row_send, crosses, sendable) depth 60 fits 20000

module _ (D : RattleType) (g : Ghosts D.Denot) where
  log_send : IsSend D → IsSend (Log.the_row D g)
  log_send s = search (crosses, sendable) depth 60 fits 20000

  pager_send : IsSend D → IsSend (Pager.the_row D g)
  pager_send s = let l = log_send s in search (crosses, sendable) depth 60 fits 20000

  pub store_send : IsSend D → IsSend (FileStore.the_row D g)
  store_send s = let p = pager_send s in search (cursor_send, saved_send, row_send, crosses, sendable) depth 60 fits 20000
