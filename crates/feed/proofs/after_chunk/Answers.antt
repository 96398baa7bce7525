use Rattle.feed.proofs.Feeds.{chunk_laws}
use Rattle.feed.proofs.after_chunk.Goals as goal

pub returns-in-Err : goal.returns-in-Err
returns-in-Err c = search chunk_laws

pub returns-in-Ok : goal.returns-in-Ok
returns-in-Ok c = search chunk_laws
