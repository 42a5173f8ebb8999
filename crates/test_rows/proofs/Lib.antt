mod OneImage
