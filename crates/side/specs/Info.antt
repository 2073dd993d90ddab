-- What the code hands on of the side information, as the two lists that it is.
-- Assumes nothing.
use Rattle.side.specs.declared.info.SideInfo.{SideInfo}
use Rattle.side.specs.Below.{side_with}
use Rattle.side.specs.Side.{Side}

abbrev pub side_in : SideInfo → Side
side_in info = side_with info.quant info.factor
