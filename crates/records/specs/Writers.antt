-- What a writer does. Assumes nothing.
use Rattle.std.specs.Prelude.{◌≡◌, ℕ, ◌+◌, List, length}
use Rattle.records.specs.declared.writer.Writer.{Writer}
use Rattle.records.specs.Formats.{Puts}

-- `more` was put from the writer's place on, and nothing else changed; the writer stands behind it, with the same bytes lent
pub record Wrote (was : Writer) (more : List ℕ) (now : Writer) : Type 0 where
  pub lent : now.out.ghost_name ≡ was.out.ghost_name
  pub long : length now.out.now ≡ length was.out.now
  pub place : now.at ≡ was.at + length more
  pub after : Puts was.out.now was.at more now.out.now
