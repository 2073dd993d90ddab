-- The number of each refusal: 01, "Numbers a call can give"; 13 is 02's, E3.
use Rattle.std.specs.Prelude.{ℕ}
use Rattle.refusal.specs.declared.Refusal.{Refusal}
use Rattle.refusal.specs.declared.Refusal.TheVariants.{NoHeader, NoSync, OtherLayer, NoBitRate, NoSampleRate, OtherFormat, CutOff, LongStream, LittleRoom, BadState, WideRead, ShortRead, BarredRate}

abbrev pub number_of : Refusal → ℕ
number_of NoHeader = 1
number_of NoSync = 2
number_of OtherLayer = 3
number_of NoBitRate = 4
number_of NoSampleRate = 5
number_of OtherFormat = 6
number_of CutOff = 7
number_of LongStream = 8
number_of LittleRoom = 9
number_of BadState = 10
number_of WideRead = 11
number_of ShortRead = 12
number_of BarredRate = 13
