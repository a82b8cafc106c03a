use Rattle.stories.proofs.story_holds.Goals as goal
use Rattle.stories.proofs.Stories.{fleet_story}

pub returns : goal.returns
returns c = fleet_story
