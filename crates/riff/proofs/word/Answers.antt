-- `riff::word` meets its contract, by the pattern's fields. Assumes nothing.
use mathlib.Core.Path.{◌∙◌}
use Rattle.riff.proofs.Pattern.{nan_level, upward, downward}
use Rattle.riff.proofs.word.Goals as goal

pub returns-then-is_nan : goal.returns-then-is_nan
returns-then-is_nan c = nan_level c.args.x c.if-is_nan.ensures.value

pub returns-then-bits-lt2147483648 : goal.returns-then-bits-lt2147483648
returns-then-bits-lt2147483648 c =
    c.min.ensures ∙ upward c.args.x c.well_formed.0.1 c.if-is_nan.ensures.not_nan c.steps-away.result (cc) c.if-bits-lt2147483648.true

pub returns : goal.returns
returns c = downward c.args.x c.well_formed.0.1 c.if-is_nan.ensures.not_nan c.steps-away.result (cc) c.if-bits-lt2147483648.false
