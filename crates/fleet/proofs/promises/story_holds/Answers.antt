use Rattle.fleet.proofs.promises.story_holds.Goals as goal
use Rattle.fleet.proofs.Stories.{fleet_story}

pub returns : goal.returns
returns c = fleet_story
