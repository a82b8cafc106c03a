-- The worked cases, by computing.
use Rattle.std.proofs.Common.{refl}
use Rattle.device.specs.Things.{same_data}
use Rattle.boot.specs.Disks.{programs_of}
use Rattle.boot.specs.Machines.{load_all_of}
use Rattle.boot.specs.Starts.{follow}
use Rattle.verifier.specs.Searches as searches
use Rattle.verifier.specs.Rows.{filled}
use Rattle.fleet.specs.Sights.{any_bad_of}
use Rattle.fleet.specs.Cases.{CasesHold, Gives, new_village, case_a, case_b, case_c, case_d, case_e, case_f, case_g}

case_a_holds : Gives new_village case_a
unfolding same_data programs_of load_all_of follow searches.some searches.seek searches.place searches.is_digest filled any_bad_of
case_a_holds = (refl, (refl, (refl, (refl, (refl, (refl, (refl, (refl, (refl, (refl, (refl, (refl, tt))))))))))))

case_b_holds : Gives new_village case_b
unfolding same_data programs_of load_all_of follow searches.some searches.seek searches.place searches.is_digest filled any_bad_of
case_b_holds = (refl, (refl, (refl, (refl, (refl, (refl, (refl, (refl, (refl, (refl, (refl, (refl, (refl, (refl, tt))))))))))))))

case_c_holds : Gives new_village case_c
unfolding same_data programs_of load_all_of follow searches.some searches.seek searches.place searches.is_digest filled any_bad_of
case_c_holds = (refl, (refl, (refl, (refl, (refl, (refl, (refl, (refl, (refl, (refl, (refl, (refl, (refl, (refl, tt))))))))))))))

case_d_holds : Gives new_village case_d
unfolding same_data programs_of load_all_of follow searches.some searches.seek searches.place searches.is_digest filled any_bad_of
case_d_holds = (refl, (refl, (refl, (refl, (refl, (refl, (refl, (refl, (refl, tt)))))))))

case_e_holds : Gives new_village case_e
unfolding same_data programs_of load_all_of follow searches.some searches.seek searches.place searches.is_digest filled any_bad_of
case_e_holds = (refl, (refl, (refl, (refl, (refl, (refl, (refl, (refl, (refl, (refl, tt))))))))))

case_f_holds : Gives new_village case_f
unfolding same_data programs_of load_all_of follow searches.some searches.seek searches.place searches.is_digest filled any_bad_of
case_f_holds = (refl, (refl, (refl, (refl, (refl, (refl, (refl, (refl, (refl, (refl, (refl, (refl, (refl, (refl, tt))))))))))))))

case_g_holds : Gives new_village case_g
unfolding same_data programs_of load_all_of follow searches.some searches.seek searches.place searches.is_digest filled any_bad_of
case_g_holds = (refl, (refl, (refl, (refl, (refl, (refl, (refl, (refl, (refl, (refl, tt))))))))))

pub cases_hold_lem : CasesHold
cases_hold_lem = (case_a_holds, (case_b_holds, (case_c_holds, (case_d_holds, (case_e_holds, (case_f_holds, (case_g_holds, tt)))))))
