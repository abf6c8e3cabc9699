-- The examples of specs/Examples, computed. Assumes nothing.
use mathlib.Core.Path.{refl}
use Rattle.lines.specs.Text.{before, pieces, fields, joined, lines, ended, first_line, line_at, part_of}
use Rattle.lines.specs.Laws.{lacks, all_lack}
use Rattle.lines.specs.Examples.{Examples}

pub examples-hold : Examples
unfolding before pieces fields joined lines ended first_line line_at part_of lacks all_lack
examples-hold = record {
  no_line = refl;
  last_lacks_end = refl;
  last_ends = refl;
  blank_between = refl;
  blank_last = refl;
  blank_alone = refl;
  no_space = refl;
  empty = refl;
  one_space = refl;
  two_spaces = refl;
  space_before = refl;
  space_behind = refl;
  feed_inside = refl;
  first_line = refl;
  last_line = refl;
  past_last = refl;
  past_text = refl;
  inside = refl;
  end_before_start = refl;
  end_past_text = refl;
  joined_none = refl;
  joined_one = refl;
  joined_three = refl;
  ended_none = refl;
  ended_two = refl;
  lacks_none = refl;
  lacks_other = refl;
  lacks_one = refl;
  all_lack_none = refl;
  all_lack_other = refl;
  all_lack_one = refl;
}
