use denote.Param.Send.{sendable}
use Rattle.zuphinka.proofs.handle.Handle.put.Goals as goal
use Rattle.zuphinka.proofs.Sent.{handles}

pub sendable-requires-send-T : goal.sendable-requires-send-T
sendable-requires-send-T c κs = search (sendable, handles)
