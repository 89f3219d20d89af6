use Rattle.zuphinka.proofs.zuphinka_open_with.Goals as goal

pub returns : goal.returns
returns c = (c.open_in.result, c.code.ensures, c.open_in.ensures)
