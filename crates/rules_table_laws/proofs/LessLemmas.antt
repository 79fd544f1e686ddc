-- How modes stand to one another.
use Rattle.std.proofs.Common.{◌<◌, arith}

pub less_0_4 : 0 < 4
less_0_4 = omega arith

pub less_0_5 : 0 < 5
less_0_5 = omega arith

pub less_0_6 : 0 < 6
less_0_6 = omega arith

pub less_2_3 : 2 < 3
less_2_3 = omega arith

pub less_2_7 : 2 < 7
less_2_7 = omega arith

pub less_2_8 : 2 < 8
less_2_8 = omega arith

pub less_3_4 : 3 < 4
less_3_4 = omega arith

pub less_3_5 : 3 < 5
less_3_5 = omega arith

pub less_3_6 : 3 < 6
less_3_6 = omega arith

pub less_3_8 : 3 < 8
less_3_8 = omega arith

pub less_4_5 : 4 < 5
less_4_5 = omega arith

pub less_4_7 : 4 < 7
less_4_7 = omega arith

pub less_4_8 : 4 < 8
less_4_8 = omega arith

pub less_5_6 : 5 < 6
less_5_6 = omega arith

pub less_6_7 : 6 < 7
less_6_7 = omega arith

pub less_8_9 : 8 < 9
less_8_9 = omega arith

pub less_9_10 : 9 < 10
less_9_10 = omega arith

pub less_9_11 : 9 < 11
less_9_11 = omega arith

pub less_11_12 : 11 < 12
less_11_12 = omega arith

pub less_12_13 : 12 < 13
less_12_13 = omega arith
