mod Clearing
