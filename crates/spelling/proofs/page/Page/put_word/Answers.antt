use Rattle.spelling.proofs.Placing.{byte_more}
use Rattle.spelling.proofs.page.Page.put_word.Goals as goal

pub loop-byte-preserved : goal.loop-byte-preserved
loop-byte-preserved c = byte_more _ _ c.loop-byte-test.true c.loop-byte.invariant c.put.ensures.placed
