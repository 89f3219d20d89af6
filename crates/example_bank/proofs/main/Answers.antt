use Rattle.std.proofs.Crossing.{crosses}
use denote.Param.Send.{sendable}
use Rattle.example_bank.proofs.Crossing.{host_send, store_send}
use Rattle.example_bank.proofs.main.Goals as goal

pub keep_books-requires-send-S : goal.keep_books-requires-send-S
keep_books-requires-send-S g c κs = search (host_send, store_send, crosses, sendable) depth 40 fits 20000
