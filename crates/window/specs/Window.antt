-- The synthesis window of ISO/IEC 11172-3, table 3-B.3, as the source has it: each value is the table's D[i] times 32768.
-- Every D[i] is a whole number of 1 / 65536, so the list below holds D[i] times 65536. Assumes nothing.
use Rattle.std.specs.Prelude.{ℕ, ◌-◌, List, [], ◌∷◌, map, false, ℤ, pos, negsuc, get_or, Float}
use Rattle.std.specs.Float.{fin, nan, binary32}
use Rattle.std.specs.Float.Ieee.{mul, of_int}

-- -n, of n from 1 up
abbrev minus : ℕ → ℤ
minus n = negsuc (n - 1)

-- the table, eight entries a line
unfoldable pub standard_d : List ℤ
standard_d =
    pos 0 ∷ minus 1 ∷ minus 1 ∷ minus 1 ∷ minus 1 ∷ minus 1 ∷ minus 1 ∷ minus 2
    ∷ minus 2 ∷ minus 2 ∷ minus 2 ∷ minus 3 ∷ minus 3 ∷ minus 4 ∷ minus 4 ∷ minus 5
    ∷ minus 5 ∷ minus 6 ∷ minus 7 ∷ minus 7 ∷ minus 8 ∷ minus 9 ∷ minus 10 ∷ minus 11
    ∷ minus 13 ∷ minus 14 ∷ minus 16 ∷ minus 17 ∷ minus 19 ∷ minus 21 ∷ minus 24 ∷ minus 26
    ∷ minus 29 ∷ minus 31 ∷ minus 35 ∷ minus 38 ∷ minus 41 ∷ minus 45 ∷ minus 49 ∷ minus 53
    ∷ minus 58 ∷ minus 63 ∷ minus 68 ∷ minus 73 ∷ minus 79 ∷ minus 85 ∷ minus 91 ∷ minus 97
    ∷ minus 104 ∷ minus 111 ∷ minus 117 ∷ minus 125 ∷ minus 132 ∷ minus 139 ∷ minus 147 ∷ minus 154
    ∷ minus 161 ∷ minus 169 ∷ minus 176 ∷ minus 183 ∷ minus 190 ∷ minus 196 ∷ minus 202 ∷ minus 208
    ∷ pos 213 ∷ pos 218 ∷ pos 222 ∷ pos 225 ∷ pos 227 ∷ pos 228 ∷ pos 228 ∷ pos 227
    ∷ pos 224 ∷ pos 221 ∷ pos 215 ∷ pos 208 ∷ pos 200 ∷ pos 189 ∷ pos 177 ∷ pos 163
    ∷ pos 146 ∷ pos 127 ∷ pos 106 ∷ pos 83 ∷ pos 57 ∷ pos 29 ∷ minus 2 ∷ minus 36
    ∷ minus 72 ∷ minus 111 ∷ minus 153 ∷ minus 197 ∷ minus 244 ∷ minus 294 ∷ minus 347 ∷ minus 401
    ∷ minus 459 ∷ minus 519 ∷ minus 581 ∷ minus 645 ∷ minus 711 ∷ minus 779 ∷ minus 848 ∷ minus 919
    ∷ minus 991 ∷ minus 1064 ∷ minus 1137 ∷ minus 1210 ∷ minus 1283 ∷ minus 1356 ∷ minus 1428 ∷ minus 1498
    ∷ minus 1567 ∷ minus 1634 ∷ minus 1698 ∷ minus 1759 ∷ minus 1817 ∷ minus 1870 ∷ minus 1919 ∷ minus 1962
    ∷ minus 2001 ∷ minus 2032 ∷ minus 2057 ∷ minus 2075 ∷ minus 2085 ∷ minus 2087 ∷ minus 2080 ∷ minus 2063
    ∷ pos 2037 ∷ pos 2000 ∷ pos 1952 ∷ pos 1893 ∷ pos 1822 ∷ pos 1739 ∷ pos 1644 ∷ pos 1535
    ∷ pos 1414 ∷ pos 1280 ∷ pos 1131 ∷ pos 970 ∷ pos 794 ∷ pos 605 ∷ pos 402 ∷ pos 185
    ∷ minus 45 ∷ minus 288 ∷ minus 545 ∷ minus 814 ∷ minus 1095 ∷ minus 1388 ∷ minus 1692 ∷ minus 2006
    ∷ minus 2330 ∷ minus 2663 ∷ minus 3004 ∷ minus 3351 ∷ minus 3705 ∷ minus 4063 ∷ minus 4425 ∷ minus 4788
    ∷ minus 5153 ∷ minus 5517 ∷ minus 5879 ∷ minus 6237 ∷ minus 6589 ∷ minus 6935 ∷ minus 7271 ∷ minus 7597
    ∷ minus 7910 ∷ minus 8209 ∷ minus 8491 ∷ minus 8755 ∷ minus 8998 ∷ minus 9219 ∷ minus 9416 ∷ minus 9585
    ∷ minus 9727 ∷ minus 9838 ∷ minus 9916 ∷ minus 9959 ∷ minus 9966 ∷ minus 9935 ∷ minus 9863 ∷ minus 9750
    ∷ minus 9592 ∷ minus 9389 ∷ minus 9139 ∷ minus 8840 ∷ minus 8492 ∷ minus 8092 ∷ minus 7640 ∷ minus 7134
    ∷ pos 6574 ∷ pos 5959 ∷ pos 5288 ∷ pos 4561 ∷ pos 3776 ∷ pos 2935 ∷ pos 2037 ∷ pos 1082
    ∷ pos 70 ∷ minus 998 ∷ minus 2122 ∷ minus 3300 ∷ minus 4533 ∷ minus 5818 ∷ minus 7154 ∷ minus 8540
    ∷ minus 9975 ∷ minus 11455 ∷ minus 12980 ∷ minus 14548 ∷ minus 16155 ∷ minus 17799 ∷ minus 19478 ∷ minus 21189
    ∷ minus 22929 ∷ minus 24694 ∷ minus 26482 ∷ minus 28289 ∷ minus 30112 ∷ minus 31947 ∷ minus 33791 ∷ minus 35640
    ∷ minus 37489 ∷ minus 39336 ∷ minus 41176 ∷ minus 43006 ∷ minus 44821 ∷ minus 46617 ∷ minus 48390 ∷ minus 50137
    ∷ minus 51853 ∷ minus 53534 ∷ minus 55178 ∷ minus 56778 ∷ minus 58333 ∷ minus 59838 ∷ minus 61289 ∷ minus 62684
    ∷ minus 64019 ∷ minus 65290 ∷ minus 66494 ∷ minus 67629 ∷ minus 68692 ∷ minus 69679 ∷ minus 70590 ∷ minus 71420
    ∷ minus 72169 ∷ minus 72835 ∷ minus 73415 ∷ minus 73908 ∷ minus 74313 ∷ minus 74630 ∷ minus 74856 ∷ minus 74992
    ∷ pos 75038 ∷ pos 74992 ∷ pos 74856 ∷ pos 74630 ∷ pos 74313 ∷ pos 73908 ∷ pos 73415 ∷ pos 72835
    ∷ pos 72169 ∷ pos 71420 ∷ pos 70590 ∷ pos 69679 ∷ pos 68692 ∷ pos 67629 ∷ pos 66494 ∷ pos 65290
    ∷ pos 64019 ∷ pos 62684 ∷ pos 61289 ∷ pos 59838 ∷ pos 58333 ∷ pos 56778 ∷ pos 55178 ∷ pos 53534
    ∷ pos 51853 ∷ pos 50137 ∷ pos 48390 ∷ pos 46617 ∷ pos 44821 ∷ pos 43006 ∷ pos 41176 ∷ pos 39336
    ∷ pos 37489 ∷ pos 35640 ∷ pos 33791 ∷ pos 31947 ∷ pos 30112 ∷ pos 28289 ∷ pos 26482 ∷ pos 24694
    ∷ pos 22929 ∷ pos 21189 ∷ pos 19478 ∷ pos 17799 ∷ pos 16155 ∷ pos 14548 ∷ pos 12980 ∷ pos 11455
    ∷ pos 9975 ∷ pos 8540 ∷ pos 7154 ∷ pos 5818 ∷ pos 4533 ∷ pos 3300 ∷ pos 2122 ∷ pos 998
    ∷ minus 70 ∷ minus 1082 ∷ minus 2037 ∷ minus 2935 ∷ minus 3776 ∷ minus 4561 ∷ minus 5288 ∷ minus 5959
    ∷ pos 6574 ∷ pos 7134 ∷ pos 7640 ∷ pos 8092 ∷ pos 8492 ∷ pos 8840 ∷ pos 9139 ∷ pos 9389
    ∷ pos 9592 ∷ pos 9750 ∷ pos 9863 ∷ pos 9935 ∷ pos 9966 ∷ pos 9959 ∷ pos 9916 ∷ pos 9838
    ∷ pos 9727 ∷ pos 9585 ∷ pos 9416 ∷ pos 9219 ∷ pos 8998 ∷ pos 8755 ∷ pos 8491 ∷ pos 8209
    ∷ pos 7910 ∷ pos 7597 ∷ pos 7271 ∷ pos 6935 ∷ pos 6589 ∷ pos 6237 ∷ pos 5879 ∷ pos 5517
    ∷ pos 5153 ∷ pos 4788 ∷ pos 4425 ∷ pos 4063 ∷ pos 3705 ∷ pos 3351 ∷ pos 3004 ∷ pos 2663
    ∷ pos 2330 ∷ pos 2006 ∷ pos 1692 ∷ pos 1388 ∷ pos 1095 ∷ pos 814 ∷ pos 545 ∷ pos 288
    ∷ pos 45 ∷ minus 185 ∷ minus 402 ∷ minus 605 ∷ minus 794 ∷ minus 970 ∷ minus 1131 ∷ minus 1280
    ∷ minus 1414 ∷ minus 1535 ∷ minus 1644 ∷ minus 1739 ∷ minus 1822 ∷ minus 1893 ∷ minus 1952 ∷ minus 2000
    ∷ pos 2037 ∷ pos 2063 ∷ pos 2080 ∷ pos 2087 ∷ pos 2085 ∷ pos 2075 ∷ pos 2057 ∷ pos 2032
    ∷ pos 2001 ∷ pos 1962 ∷ pos 1919 ∷ pos 1870 ∷ pos 1817 ∷ pos 1759 ∷ pos 1698 ∷ pos 1634
    ∷ pos 1567 ∷ pos 1498 ∷ pos 1428 ∷ pos 1356 ∷ pos 1283 ∷ pos 1210 ∷ pos 1137 ∷ pos 1064
    ∷ pos 991 ∷ pos 919 ∷ pos 848 ∷ pos 779 ∷ pos 711 ∷ pos 645 ∷ pos 581 ∷ pos 519
    ∷ pos 459 ∷ pos 401 ∷ pos 347 ∷ pos 294 ∷ pos 244 ∷ pos 197 ∷ pos 153 ∷ pos 111
    ∷ pos 72 ∷ pos 36 ∷ pos 2 ∷ minus 29 ∷ minus 57 ∷ minus 83 ∷ minus 106 ∷ minus 127
    ∷ minus 146 ∷ minus 163 ∷ minus 177 ∷ minus 189 ∷ minus 200 ∷ minus 208 ∷ minus 215 ∷ minus 221
    ∷ minus 224 ∷ minus 227 ∷ minus 228 ∷ minus 228 ∷ minus 227 ∷ minus 225 ∷ minus 222 ∷ minus 218
    ∷ pos 213 ∷ pos 208 ∷ pos 202 ∷ pos 196 ∷ pos 190 ∷ pos 183 ∷ pos 176 ∷ pos 169
    ∷ pos 161 ∷ pos 154 ∷ pos 147 ∷ pos 139 ∷ pos 132 ∷ pos 125 ∷ pos 117 ∷ pos 111
    ∷ pos 104 ∷ pos 97 ∷ pos 91 ∷ pos 85 ∷ pos 79 ∷ pos 73 ∷ pos 68 ∷ pos 63
    ∷ pos 58 ∷ pos 53 ∷ pos 49 ∷ pos 45 ∷ pos 41 ∷ pos 38 ∷ pos 35 ∷ pos 31
    ∷ pos 29 ∷ pos 26 ∷ pos 24 ∷ pos 21 ∷ pos 19 ∷ pos 17 ∷ pos 16 ∷ pos 14
    ∷ pos 13 ∷ pos 11 ∷ pos 10 ∷ pos 9 ∷ pos 8 ∷ pos 7 ∷ pos 7 ∷ pos 6
    ∷ pos 5 ∷ pos 5 ∷ pos 4 ∷ pos 4 ∷ pos 3 ∷ pos 3 ∷ pos 2 ∷ pos 2
    ∷ pos 2 ∷ pos 2 ∷ pos 1 ∷ pos 1 ∷ pos 1 ∷ pos 1 ∷ pos 1 ∷ pos 1 ∷ []

-- half of an integer, as an f32: exact for each entry
unfoldable pub half : ℤ → Float
half n = mul binary32 (of_int binary32 n) (fin false 1 (negsuc 0))

-- the window as the source has it
unfoldable pub window_list : List Float
window_list = map half standard_d

unfoldable pub window_at : ℕ → Float
window_at i = get_or window_list i nan
