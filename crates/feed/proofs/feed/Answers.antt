use Rattle.feed.proofs.Feeds.{feed_taken, feed_late}
use Rattle.feed.proofs.feed.Goals as goal

pub returns-then-is_usable : goal.returns-then-is_usable
returns-then-is_usable c = search feed_taken

pub returns : goal.returns
returns c = search feed_late
